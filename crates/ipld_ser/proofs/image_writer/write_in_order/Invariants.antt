use Rattle.std.proofs.Common.{map, take}
use Rattle.ipld_ser.specs.ImageWriter.{Appends, entry_at, one_after_another}
use Rattle.ipld_ser.proofs.image_writer.write_in_order.Given as goal

abbrev pub invariant-loop-entry : goal.invariant-loop-entry
invariant-loop-entry g l =
    Appends (one_after_another (map (entry_at g.W.ImageWriter.written (g.F.SerializeFields.fields l.fields)) (take l.entry-index l.order))) (g.W.ImageWriter.contents l.initial.writer) (g.W.ImageWriter.contents l.writer)
