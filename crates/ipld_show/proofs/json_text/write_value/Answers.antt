use Rattle.std.proofs.Common.{reverse, refl, subst}
use Rattle.ipld_show.specs.Heads.{IsHeadOf}
use Rattle.dag_cbor_format.specs.declared.item.ItemHead.TheVariants as begin
use Rattle.ipld_show.proofs.Items.{head_is, no_error}
use Rattle.ipld_show.proofs.Jsons.{scalar_written, memory_error}
use Rattle.ipld_show.proofs.Trees.{has_cid}
use Rattle.ipld_show.proofs.json_text.write_value.Goals as goal

pub returns-in_default : goal.returns-in_default
returns-in_default c = λ whole w n k. absurd (no_error k.value c.args.place.rest.now k.part.mid c.in_default.field-0 k.part.holds.begins c.in_default.ensures.rejected)

pub returns-in_ok-inner-in-List : goal.returns-in_ok-inner-in-List
returns-in_ok-inner-in-List c = λ whole w n k.
    let i = head_is k.value c.args.place.rest.now k.part.mid k.part.holds.begins c.in-Ok.head c.in-Ok.rest.now c.in-Ok.ensures.found in
    let l : IsHeadOf (begin.List c.in-List.items) k.value c.in-Ok.rest.now k.part.mid = subst (λ h. IsHeadOf h k.value c.in-Ok.rest.now k.part.mid) c.in-List.is i in
    c.in_ok-inner-in-List.ensures whole c.args.total w n k l

pub returns-in-Ok-enter_map : goal.returns-in-Ok-enter_map
returns-in-Ok-enter_map c = λ whole w n k.
    let i = head_is k.value c.args.place.rest.now k.part.mid k.part.holds.begins c.in-Ok.head c.in-Ok.rest.now c.in-Ok.ensures.found in
    let m : IsHeadOf (begin.Map c.in-Map.entries) k.value c.in-Ok.rest.now k.part.mid = subst (λ h. IsHeadOf h k.value c.in-Ok.rest.now k.part.mid) c.in-Map.is i in
    c.in-Ok-enter_map.ensures whole w n k m

pub returns-in-Err : goal.returns-in-Err
returns-in-Err c = λ whole w n k.
    let i = head_is k.value c.args.place.rest.now k.part.mid k.part.holds.begins c.in-Ok.head c.in-Ok.rest.now c.in-Ok.ensures.found in
    let m : IsHeadOf (begin.Map c.in-Map.entries) k.value c.in-Ok.rest.now k.part.mid = subst (λ h. IsHeadOf h k.value c.in-Ok.rest.now k.part.mid) c.in-Map.is i in
    c.in-Err.ensures whole w n k m

pub returns-in-Ok-write_scalar : goal.returns-in-Ok-write_scalar
returns-in-Ok-write_scalar c = λ whole w n k.
    let i = head_is k.value c.args.place.rest.now k.part.mid k.part.holds.begins c.in-Ok.head c.in-Ok.rest.now c.in-Ok.ensures.found in
    let t = c.in-Ok-write_scalar.ensures (has_cid c.in-Ok.head k.value c.in-Ok.rest.now k.part.mid i k.part.holds.begins.is_item) in
    scalar_written whole c.args.total (reverse c.args.frames.now.items) c.in-Ok.head c.args.place (record { rest = c.in-Ok.rest; containers = c.args.place.containers }) w t.0 n
    c.args.writer.now c.write_scalar.new.writer k i c.in_default-head.not-List c.in_default-head.not-Map t.1 refl t.2

pub returns-in-Err-write_scalar : goal.returns-in-Err-write_scalar
returns-in-Err-write_scalar c = λ whole w n k.
    let i = head_is k.value c.args.place.rest.now k.part.mid k.part.holds.begins c.in-Ok.head c.in-Ok.rest.now c.in-Ok.ensures.found in
    memory_error whole c.in-Err-write_scalar.error (c.in-Err-write_scalar.ensures (has_cid c.in-Ok.head k.value c.in-Ok.rest.now k.part.mid i k.part.holds.begins.is_item))
