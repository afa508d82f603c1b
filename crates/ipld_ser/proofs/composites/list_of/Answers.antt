use Rattle.std.proofs.Common.{arith}
use Rattle.std.proofs.lemmas.Result.{err_from_is_err_and}
use Rattle.ipld_ser.proofs.Lists.{list_more, list_rejected}
use Rattle.ipld_ser.proofs.composites.list_of.Goals as goal

pub loop-item-preserved : goal.loop-item-preserved
loop-item-preserved g c =
    list_more g.T.Serialize.image c.args.items.now c.loop-item.item-index c.item-item.result _ _ (omega arith) c.item-item.is c.loop-item.invariant c.in_ok-serialize_element.ensures.ok

pub returns-in_err-serialize_element-clause-err : goal.returns-in_err-serialize_element-clause-err
returns-in_err-serialize_element-clause-err g c =
    let p = err_from_is_err_and c.from_residual-in_err-serialize_element.result c.from_residual-in_err-serialize_element.ensures.1 in
    rw (p.1, p.2)
    (list_rejected g.T.Serialize.image g.T.Serialize.write_error c.args.items.now c.loop-item.item-index c.item-item.result _ _ (omega arith) c.item-item.is c.loop-item.invariant c.in_err-serialize_element.ensures.err)
