use Rattle.std.proofs.Common.{map, take}
use Rattle.ipld_ser.specs.ImageWriter.{Appends, written_image, one_after_another}
use Rattle.ipld_ser.proofs.composites.write_list.Given as goal

abbrev pub invariant-loop-item : goal.invariant-loop-item
invariant-loop-item g l =
    Appends (one_after_another (map (λ x. written_image g.W.ImageWriter.written (g.T.Serialize.image x)) (take l.item-index l.items))) (g.W.ImageWriter.contents l.initial.writer) (g.W.ImageWriter.contents l.writer)
