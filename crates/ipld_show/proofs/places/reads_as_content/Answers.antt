use Rattle.std.proofs.Common.{true, refl, sym, subst, ◌∙◌}
use Rattle.dag_cbor_format.specs.declared.item.ItemHead.TheVariants as begin
use Rattle.ipld_show.specs.Heads.{IsHeadOf}
use Rattle.ipld_show.specs.JsonText.{ReadsAsContent}
use Rattle.ipld_show.proofs.Items.{head_is, no_error}
use Rattle.ipld_show.proofs.Reached.{entries_inside, no_content}
use Rattle.ipld_show.proofs.places.reads_as_content.Goals as goal

pub returns-in_default : goal.returns-in_default
returns-in_default c = λ whole total d p. absurd (no_error d c.args.place.rest.now p.mid c.in_default.field-0 p.holds.begins c.in_default.ensures.rejected)

pub returns-in-Str : goal.returns-in-Str
returns-in-Str c = λ whole total d p.
    let i = head_is d c.args.place.rest.now p.mid p.holds.begins c.in-Ok.head c.in-Ok.rest.now c.in-Ok.ensures.found in
    let s : IsHeadOf (begin.Str c.in-Str.field-0) d c.in-Ok.rest.now p.mid = subst (λ h. IsHeadOf h d c.in-Ok.rest.now p.mid) c.in-Str.is i in
    subst (λ x. ReadsAsContent x true) (sym s.0) refl

pub returns-in-Ok-entries_at : goal.returns-in-Ok-entries_at
returns-in-Ok-entries_at c = λ whole total d p.
    let i = head_is d c.args.place.rest.now p.mid p.holds.begins c.in-Ok.head c.in-Ok.rest.now c.in-Ok.ensures.found in
    let m : IsHeadOf (begin.Map c.in-Map.count) d c.in-Ok.rest.now p.mid = subst (λ h. IsHeadOf h d c.in-Ok.rest.now p.mid) c.in-Map.is i in
    let first = entries_inside whole total c.in-Map.count d c.args.place c.first_place.result c.in-Ok.rest.now p m c.first_place.ensures.rest c.first_place.ensures.containers in
    let a = c.in-Ok-entries_at.ensures whole total m.0 first m.2 in
    subst (λ x. ReadsAsContent x c.begin_with_bytes.result) (sym m.1) (_, a.in_order, c.begin_with_bytes.ensures whole total a.known (c.deref.ensures.value ∙ a.are))

pub returns-in-Err : goal.returns-in-Err
returns-in-Err c = λ whole total d p.
    let i = head_is d c.args.place.rest.now p.mid p.holds.begins c.in-Ok.head c.in-Ok.rest.now c.in-Ok.ensures.found in
    let m : IsHeadOf (begin.Map c.in-Map.count) d c.in-Ok.rest.now p.mid = subst (λ h. IsHeadOf h d c.in-Ok.rest.now p.mid) c.in-Map.is i in
    let first = entries_inside whole total c.in-Map.count d c.args.place c.first_place.result c.in-Ok.rest.now p m c.first_place.ensures.rest c.first_place.ensures.containers in
    c.in-Err.ensures whole total m.0 first m.2

pub returns-in_default-head : goal.returns-in_default-head
returns-in_default-head c = λ whole total d p.
    no_content c.in-Ok.head d c.in-Ok.rest.now p.mid (head_is d c.args.place.rest.now p.mid p.holds.begins c.in-Ok.head c.in-Ok.rest.now c.in-Ok.ensures.found) c.in_default-head.not-Str c.in_default-head.not-Map
