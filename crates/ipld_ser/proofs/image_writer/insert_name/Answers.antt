use Rattle.std.proofs.Common.{◌≡◌, ◌∙◌, ℕ, sym, ap, subst}
use Rattle.std.specs.Prelude.{insert}
use Rattle.ipld_ser.specs.ImageWriter.{filed, indexed}
use Rattle.ipld_ser.proofs.Placing.{indexed_insert}
use Rattle.ipld_ser.proofs.image_writer.insert_name.Goals as goal

pub returns-clause-filed : goal.returns-clause-filed
returns-clause-filed c =
    let order = c.args.order.now in
    let name = c.args.name.now in
    let place = subst (λ xs. (i : ℕ) → filed name i (indexed xs) ≡ insert (indexed xs) c.place_of-place.result (name, i)) c.deref.ensures.value c.place_of-place.ensures.filed in
    ap indexed c.in_ok-insert.ensures.items ∙ indexed_insert order.items c.place_of-place.result _ ∙ sym (place c.len-index.result)
    ∙ ap (λ i. filed name i (indexed order.items)) (c.len-index.ensures ∙ order.ok.0)
