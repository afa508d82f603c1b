use Rattle.std.proofs.Common.{◌≡◌, ◌-◌, [], length, drop}
use Rattle.ipld_ser.specs.ImageWriter.{filed_from, indexed, names_of}
use Rattle.ipld_ser.proofs.image_writer.order_of.Given as goal

abbrev pub invariant-loop-name : goal.invariant-loop-name
invariant-loop-name g l =
    let names = names_of (g.F.SerializeFields.fields l.fields) in
    let filed = length l.order.items in
    filed_from 0 names [] ≡ filed_from filed (drop filed names) (indexed l.order.items)

abbrev pub decreases-loop-name : goal.decreases-loop-name
decreases-loop-name g l = length (names_of (g.F.SerializeFields.fields l.fields)) - length l.order.items
