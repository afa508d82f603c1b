use Rattle.std.proofs.Common.{◌∙◌, ◌++◌, ◌<◌, ◌^◌, ap, map, subst, arith}
use Rattle.ipld_ser.specs.ImageWriter.{Appends, entry_at, one_after_another}
use Rattle.ipld_ser.proofs.Appending.{struct_written}
use Rattle.ipld_ser.proofs.image_writer.write_fields.Goals as goal

pub returns : goal.returns
returns g c =
    let fields = g.F.SerializeFields.fields c.args.fields.now in
    let written = g.W.ImageWriter.written in
    let head = g.W.ImageWriter.map_head in
    let begun = g.W.ImageWriter.contents c.begin_map.new.self in
    let order = c.in_ok-order.order in
    let count = c.len.ensures ∙ order.ok.0 in
    struct_written written head g.met.W.ImageWriter.structs fields order.items _ begun _ c.requires c.in_ok-order.ensures
    (omega (arith, order.ok.0, order.ok.1, order.small))
    (c.in_ok-begin_map.ensures ∙ ap (λ n. g.W.ImageWriter.contents c.args.writer.now ++ head n) count)
    (subst (λ xs. Appends (one_after_another (map (entry_at written fields) xs)) begun (g.W.ImageWriter.contents c.write_in_order.new.writer)) c.deref.ensures.value c.in_ok-write_in_order.ensures)
