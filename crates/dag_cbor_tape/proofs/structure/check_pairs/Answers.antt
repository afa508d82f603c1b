use Rattle.std.proofs.Common.{◌≡◌, Bool, true, None, Result, Ok, Err, inr, sym}
use Rattle.std.proofs.lemmas.Result.{err_from_is_err_and}
use Rattle.dag_cbor_tape.specs.declared.error.Fault.{Fault}
use Rattle.dag_cbor_tape.specs.Structure.{ascending}
use Rattle.dag_cbor_tape.proofs.Ascending.{agree_first}
use Rattle.dag_cbor_tape.proofs.structure.check_pairs.Goals as goal

pub returns-in_err-pairs_ascend-clause-exact : goal.returns-in_err-pairs_ascend-clause-exact
returns-in_err-pairs_ascend-clause-exact c =
    let e = c.in_err-pairs_ascend.field-0.0 in
    let p = err_from_is_err_and c.from_residual.result c.from_residual.ensures.1 in
    rw (p.1, p.2) (inr (agree_first c.args.contents.now c.args.count c.args.entries.now (Err e) c.in_err-pairs_ascend.ensures.exact))

pub returns-then-branch-clause-exact : goal.returns-then-branch-clause-exact
returns-then-branch-clause-exact c =
    let is : ◌≡◌ {A = Result Bool Fault} (Ok true) (ascending c.args.contents.now c.args.count None c.args.entries.now) = rw c.if-branch.true at c.in_ok-pairs_ascend.ensures.exact in
    (agree_first c.args.contents.now c.args.count c.args.entries.now (Ok true) is, λ t. sym is)
