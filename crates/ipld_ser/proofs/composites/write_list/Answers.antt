use Rattle.std.proofs.Common.{map, subst, arith}
use Rattle.std.proofs.lemmas.List.{take_all}
use Rattle.ipld_ser.specs.ImageWriter.{Appends, written_image, one_after_another}
use Rattle.ipld_ser.proofs.Appending.{each_more, elements_written}
use Rattle.ipld_ser.proofs.composites.write_list.Goals as goal

pub loop-item-preserved : goal.loop-item-preserved
loop-item-preserved g c =
    each_more (λ x. written_image g.W.ImageWriter.written (g.T.Serialize.image x)) c.args.items.now c.loop-item.item-index c.item-item.result _ _ _ (omega arith) c.item-item.is c.loop-item.invariant c.in_ok-write_image.ensures

pub returns : goal.returns
returns g c =
    let written = g.W.ImageWriter.written in
    let image = g.T.Serialize.image in
    let items = c.args.items.now in
    elements_written written g.W.ImageWriter.list_head g.met.W.ImageWriter.lists image items _ (g.W.ImageWriter.contents c.begin_list.new.self) _ (omega arith) c.in_ok-begin_list.ensures
    (subst (λ xs. Appends (one_after_another (map (λ x. written_image written (image x)) xs)) (g.W.ImageWriter.contents c.begin_list.new.self) (g.W.ImageWriter.contents c.loop-item.writer))
    (take_all c.loop-item.item-index items (omega arith)) c.loop-item.invariant)
