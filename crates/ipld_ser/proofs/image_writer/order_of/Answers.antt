use Rattle.std.proofs.Common.{◌≡◌, ◌∙◌, ◌+◌, [], sym, ap, subst, length, drop, slice_get}
use Rattle.ipld_ser.specs.ImageWriter.{filed_from, indexed, names_of}
use Rattle.ipld_ser.proofs.Placing.{one_more_filed, all_filed}
use Rattle.ipld_ser.proofs.image_writer.order_of.Goals as goal

pub loop-name-preserved : goal.loop-name-preserved
loop-name-preserved g c =
    let names = names_of (g.F.SerializeFields.fields c.args.fields.now) in
    let order = c.loop-name.order in
    let at = sym (ap (slice_get names) (c.len.ensures ∙ order.ok.0)) ∙ c.in-Some.ensures.some in
    subst (λ n. filed_from 0 names [] ≡ filed_from n (drop n names) (indexed c.insert_name.new.order.items)) (sym c.in_ok-insert_name.ensures.len)
    (one_more_filed names (length order.items) c.in-Some.name.now (indexed order.items) (indexed c.insert_name.new.order.items) (filed_from 0 names []) c.loop-name.invariant at c.in_ok-insert_name.ensures.filed)

pub returns : goal.returns
returns g c =
    let names = names_of (g.F.SerializeFields.fields c.args.fields.now) in
    let order = c.loop-name.order in
    all_filed names (length order.items) (indexed order.items) (filed_from 0 names []) c.loop-name.invariant (sym (ap (slice_get names) (c.len.ensures ∙ order.ok.0)) ∙ c.in_default.ensures.none)
