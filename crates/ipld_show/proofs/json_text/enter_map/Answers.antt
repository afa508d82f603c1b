use Rattle.std.proofs.Common.{Bool, map, reverse, refl, subst, ◌∙◌}
use Rattle.dag_cbor_format.specs.declared.item.ItemHead.TheVariants as begin
use Rattle.ipld_show.specs.JsonText.{AreReserved}
use Rattle.ipld_show.specs.Places.{KnownEntry}
use Rattle.ipld_show.specs.declared.json_text.Frame.TheVariants as frame
use Rattle.ipld_show.proofs.Jsons.{map_begins, map_reserved, memory_error}
use Rattle.ipld_show.proofs.Reached.{entries_inside, is_map_container}
use Rattle.ipld_show.proofs.Trees.{reverse_pop}
use Rattle.ipld_show.proofs.json_text.enter_map.Goals as goal

pub returns-in-Err : goal.returns-in-Err
returns-in-Err c = λ whole w n k i.
    let first = entries_inside whole c.args.total c.args.count k.value c.args.place c.first_place.result c.args.rest.now k.part i c.first_place.ensures.rest c.first_place.ensures.containers in
    memory_error whole c.in-Err.error (c.in-Err.ensures whole c.args.total i.0 first i.2)

pub returns-in-Ok-true : goal.returns-in-Ok-true
returns-in-Ok-true c = λ whole w n k i.
    let first = entries_inside whole c.args.total c.args.count k.value c.args.place c.first_place.result c.args.rest.now k.part i c.first_place.ensures.rest c.first_place.ensures.containers in
    let a = c.in-Ok.ensures whole c.args.total i.0 first i.2 in
    let reserved = subst (λ (x : Bool). AreReserved (map (λ (j : KnownEntry whole c.args.total). j.member) a.known) x) c.in-Ok-true.field-0-test
    (c.in-Ok-true.ensures whole c.args.total a.known (c.deref.ensures.value ∙ a.are)) in
    map_reserved whole c.args.total (reverse c.args.frames.now.items) c.args.count c.saturating_sub.result c.args.place c.args.rest.now w n c.in-Ok.entries.items k i a reserved c.saturating_sub.ensures

pub returns-in-Err-are_reserved : goal.returns-in-Err-are_reserved
returns-in-Err-are_reserved c = λ whole w n k i.
    let first = entries_inside whole c.args.total c.args.count k.value c.args.place c.first_place.result c.args.rest.now k.part i c.first_place.ensures.rest c.first_place.ensures.containers in
    let a = c.in-Ok.ensures whole c.args.total i.0 first i.2 in
    memory_error whole c.in-Err-are_reserved.error (c.in-Err-are_reserved.ensures whole c.args.total a.known (c.deref.ensures.value ∙ a.are))

pub returns : goal.returns
returns c = λ whole w n k i.
    let first = entries_inside whole c.args.total c.args.count k.value c.args.place c.first_place.result c.args.rest.now k.part i c.first_place.ensures.rest c.first_place.ensures.containers in
    let a = c.in-Ok.ensures whole c.args.total i.0 first i.2 in
    let free = subst (λ (x : Bool). AreReserved (map (λ (j : KnownEntry whole c.args.total). j.member) a.known) x) c.in-Ok-false.field-0-test
    (c.in-Ok-false.ensures whole c.args.total a.known (c.deref.ensures.value ∙ a.are)) in
    let behind = c.in-Some.ensures k.value k.part.mid k.part.post k.part.holds (is_map_container (begin.Map c.args.count) k.value c.args.rest.now k.part.mid c.args.count refl i) in
    map_begins whole c.args.total (reverse c.args.frames.now.items) c.args.count c.args.place c.in-Some.after c.args.rest.now w n c.args.writer.now
    c.begin_object.new.self (reverse c.push.new.self.items) c.reverse.new.self c.in-Ok.entries.items k i a c.reverse.ensures.items free behind
    (record { before = c.begin_object.ensures.room.0; tokens = c.in_ok-begin_object.ensures.ok })
    (reverse_pop c.push.new.self.items c.args.frames.now.items (frame.Map c.reverse.new.self c.in-Some.after) c.in_ok-push.ensures.items)
