use Rattle.std.proofs.Common.{IsSomeAnd, IfSome, Option, None, option_map, sym, subst}
use Rattle.std.proofs.lemmas.Result.{err_from_is_err_and}
use Rattle.ipld_tree.specs.Tree.{Tree}
use Rattle.ipld_tree.specs.TreeOf.{tree_of}
use Rattle.ipld_ser.specs.declared.error.SerdeError.{SerdeError}
use Rattle.dag_cbor.specs.Lemmas.BlockLaws.{block_decodes_encoded}
use Rattle.ipld_explain.specs.Failures.{failure_of, Explains}
use Rattle.dag_cbor_serde.proofs.Reading.{block_within, block_rejected, block_no_reader}
use Rattle.dag_cbor_serde.proofs.explain.explain_slice.Goals as goal

pub returns-in_err-tree-clause-err : goal.returns-in_err-tree-clause-err
returns-in_err-tree-clause-err g c =
    let nothing : Tree → Option (Unit {0}) = λ t. None in
    let none : Tree → SerdeError → Type 0 = λ t e. ⊥ in
    let p = err_from_is_err_and c.from_residual.result c.from_residual.ensures.1 in
    rw (p.1, p.2) (block_rejected nothing none c.args.limits.now c.args.bytes.now c.in_err-tree.field-0.0
    c.in_err-tree.ensures.exact c.in_err-tree.ensures.only c.in_err-tree.ensures.stopped c.in_err-tree.ensures.offset)

pub returns-in_err-tree-clause-no_reader : goal.returns-in_err-tree-clause-no_reader
returns-in_err-tree-clause-no_reader g c =
    let p = err_from_is_err_and c.from_residual.result c.from_residual.ensures.1 in
    rw (p.1, p.2) (block_no_reader c.args.limits.now c.args.bytes.now c.in_err-tree.field-0.0 c.in_err-tree.ensures.exact)

pub returns-in-Ok-clause-ok : goal.returns-in-Ok-clause-ok
returns-in-Ok-clause-ok g c =
    subst (λ o. IsSomeAnd o (λ t. Explains g.T.Deserialize.reads g.T.Explain.fails t (option_map failure_of c.in-Ok.found)))
    (sym ((block_decodes_encoded (tree_of c.in_ok-tree.tree) c.args.bytes.now).1 c.in_ok-tree.ensures.found)) c.in-Ok.ensures.why

pub returns-in-Ok-clause-error : goal.returns-in-Ok-clause-error
returns-in-Ok-clause-error g c =
    subst (λ o. IfSome c.in-Ok.found (λ x. IsSomeAnd o (λ t. g.T.Deserialize.read_error t x.error)))
    (sym ((block_decodes_encoded (tree_of c.in_ok-tree.tree) c.args.bytes.now).1 c.in_ok-tree.ensures.found)) c.in-Ok.ensures.error

pub returns-in-Ok-clause-within : goal.returns-in-Ok-clause-within
returns-in-Ok-clause-within g c = block_within c.args.limits.now c.args.bytes.now (tree_of c.in_ok-tree.tree) c.in_ok-tree.ensures.found c.in_ok-tree.ensures.within
