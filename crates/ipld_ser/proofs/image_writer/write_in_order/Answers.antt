use Rattle.std.proofs.Common.{map, subst, arith}
use Rattle.std.proofs.lemmas.List.{take_all}
use Rattle.ipld_ser.specs.ImageWriter.{Appends, entry_at, one_after_another}
use Rattle.ipld_ser.proofs.Appending.{next_one}
use Rattle.ipld_ser.proofs.image_writer.write_in_order.Goals as goal

pub loop-entry-preserved : goal.loop-entry-preserved
loop-entry-preserved g c =
    next_one (entry_at g.W.ImageWriter.written (g.F.SerializeFields.fields c.args.fields.now)) c.args.order.now c.loop-entry.entry-index _ _ _ _ (omega arith) c.loop-entry.invariant
    c.in_ok-write_entry.ensures

pub returns : goal.returns
returns g c =
    subst (λ xs. Appends (one_after_another (map (entry_at g.W.ImageWriter.written (g.F.SerializeFields.fields c.args.fields.now)) xs)) (g.W.ImageWriter.contents c.args.writer.now) (g.W.ImageWriter.contents c.loop-entry.writer))
    (take_all c.loop-entry.entry-index c.args.order.now (omega arith)) c.loop-entry.invariant
