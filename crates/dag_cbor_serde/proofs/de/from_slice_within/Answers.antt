use Rattle.std.proofs.lemmas.Result.{err_from_is_err_and}
use Rattle.ipld_tree.specs.TreeOf.{tree_of}
use Rattle.dag_cbor_serde.proofs.Reading.{block_read, block_within, value_rejected, block_rejected, block_no_reader}
use Rattle.dag_cbor_serde.proofs.de.from_slice_within.Goals as goal

pub returns-in_err-tree-clause-err : goal.returns-in_err-tree-clause-err
returns-in_err-tree-clause-err g c =
    let p = err_from_is_err_and c.from_residual.result c.from_residual.ensures.1 in
    rw (p.1, p.2) (block_rejected g.T.Deserialize.reads g.T.Deserialize.read_error c.args.limits.now c.args.bytes.now c.in_err-tree.field-0.0
    c.in_err-tree.ensures.exact c.in_err-tree.ensures.only c.in_err-tree.ensures.stopped c.in_err-tree.ensures.offset)

pub returns-in_err-tree-clause-no_reader : goal.returns-in_err-tree-clause-no_reader
returns-in_err-tree-clause-no_reader g c =
    let p = err_from_is_err_and c.from_residual.result c.from_residual.ensures.1 in
    rw (p.1, p.2) (block_no_reader c.args.limits.now c.args.bytes.now c.in_err-tree.field-0.0 c.in_err-tree.ensures.exact)

pub returns-in_err-from_ipld-clause-err : goal.returns-in_err-from_ipld-clause-err
returns-in_err-from_ipld-clause-err g c =
    let p = err_from_is_err_and c.from_residual-in_err-from_ipld.result c.from_residual-in_err-from_ipld.ensures.1 in
    rw (p.1, p.2) (value_rejected g.T.Deserialize.reads g.T.Deserialize.read_error c.args.limits.now c.args.bytes.now (tree_of c.in_ok-tree.tree) c.in_err-from_ipld.field-0.0
    c.in_ok-tree.ensures.found c.in_ok-tree.ensures.within c.in_err-from_ipld.ensures.err)

pub returns-clause-ok : goal.returns-clause-ok
returns-clause-ok g c =
    block_read g.T.Deserialize.reads c.args.bytes.now (tree_of c.in_ok-tree.tree) (g.T.Deserialize.contents c.in_ok-from_ipld.field-0) c.in_ok-tree.ensures.found c.in_ok-from_ipld.ensures.ok

pub returns-clause-within : goal.returns-clause-within
returns-clause-within g c = block_within c.args.limits.now c.args.bytes.now (tree_of c.in_ok-tree.tree) c.in_ok-tree.ensures.found c.in_ok-tree.ensures.within
