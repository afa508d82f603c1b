use Rattle.std.proofs.Common.{◌≤◌, suc, false, pos, negsuc, Some, refl, ap, ◌∙◌, rules, arith}
use Rattle.ipld_tokens.specs.Token.{integer, text}
use Rattle.dag_cbor_format.specs.declared.major.Major.{Major}
use Rattle.dag_cbor_format.specs.declared.major.Major.TheVariants.{Unsigned, Negative, Bytes, Text, List, Map, Tag, Simple}
use Rattle.dag_cbor_format.specs.ItemHeader.{bytes_scalar, text_scalar}
use Rattle.dag_cbor_blocks.proofs.Switches.{is_on}
use Rattle.dag_cbor_blocks.proofs.ShallowVisits.{atom_visited, bytes_visited, list_goes_on, list_visited, map_opened, map_goes_on, map_visited, headed_visited, headed_result}
use Rattle.dag_cbor_blocks.proofs.shallow.+visiting.Goals as goal

pub visit_item-returns-in_ok-visit-in-Unsigned : goal.visit_item-returns-in_ok-visit-in-Unsigned
visit_item-returns-in_ok-visit-in-Unsigned g t c =
    let h = c.in-Ok in
    headed_visited (is_on g.row.FLOATS) g.V.Visitor.answer c.args.levels c.args.visitor.now c.visit.new.self c.args.bytes.now h.rest.now h.rest.now Unsigned h.argument (h.ensures ∙ ap (λ (m : Major). Some (m, h.argument, h.rest.now)) c.in-Unsigned.is)
    (atom_visited (is_on g.row.FLOATS) g.V.Visitor.answer c.args.levels c.args.visitor.now c.visit.new.self Unsigned h.argument h.rest.now h.rest.now (integer (pos h.argument)) refl (search (c.in_ok-visit-in-Unsigned.ensures false, c.from.ensures, rules)))

pub visit_item-returns-in_ok-visit-in-Negative : goal.visit_item-returns-in_ok-visit-in-Negative
visit_item-returns-in_ok-visit-in-Negative g t c =
    let h = c.in-Ok in
    headed_visited (is_on g.row.FLOATS) g.V.Visitor.answer c.args.levels c.args.visitor.now c.visit-in-Negative.new.self c.args.bytes.now h.rest.now h.rest.now Negative h.argument
    (h.ensures ∙ ap (λ (m : Major). Some (m, h.argument, h.rest.now)) c.in-Negative.is)
    (atom_visited (is_on g.row.FLOATS) g.V.Visitor.answer c.args.levels c.args.visitor.now c.visit-in-Negative.new.self Negative h.argument h.rest.now h.rest.now (integer (negsuc h.argument)) refl
    (search (c.in_ok-visit-in-Negative.ensures false, c.from-in-Negative.ensures, rules)))

pub visit_item-returns-in_ok-visit-in-Bytes : goal.visit_item-returns-in_ok-visit-in-Bytes
visit_item-returns-in_ok-visit-in-Bytes g t c =
    let h = c.in-Ok in
    let r = c.in_ok-content-in-Bytes in
    headed_visited (is_on g.row.FLOATS) g.V.Visitor.answer c.args.levels c.args.visitor.now c.visit-in-Bytes.new.self c.args.bytes.now h.rest.now r.rest.now Bytes h.argument (h.ensures ∙ ap (λ (m : Major). Some (m, h.argument, h.rest.now)) c.in-Bytes.is)
    (bytes_visited (is_on g.row.FLOATS) g.V.Visitor.answer c.args.levels c.args.visitor.now c.visit-in-Bytes.new.self Bytes h.argument h.rest.now r.content.now r.rest.now (ap bytes_scalar r.ensures) (c.in_ok-visit-in-Bytes.ensures false))

pub visit_item-returns-in_ok-visit-in-Text : goal.visit_item-returns-in_ok-visit-in-Text
visit_item-returns-in_ok-visit-in-Text g t c =
    let h = c.in-Ok in
    let r = c.in_ok-string-in-Text in
    headed_visited (is_on g.row.FLOATS) g.V.Visitor.answer c.args.levels c.args.visitor.now c.visit-in-Text.new.self c.args.bytes.now h.rest.now r.rest.now Text h.argument (h.ensures ∙ ap (λ (m : Major). Some (m, h.argument, h.rest.now)) c.in-Text.is)
    (atom_visited (is_on g.row.FLOATS) g.V.Visitor.answer c.args.levels c.args.visitor.now c.visit-in-Text.new.self Text h.argument h.rest.now r.rest.now (text r.string.now) (ap text_scalar r.ensures) (c.in_ok-visit-in-Text.ensures false))

pub visit_item-returns-in-List : goal.visit_item-returns-in-List
visit_item-returns-in-List g t c =
    let h = c.in-Ok in
    headed_result (is_on g.row.FLOATS) g.V.Visitor.answer c.args.levels c.args.visitor.now c.visit_list.new.visitor c.args.bytes.now h.rest.now List h.argument c.visit_list.result
    (h.ensures ∙ ap (λ (m : Major). Some (m, h.argument, h.rest.now)) c.in-List.is) c.visit_list.ensures

pub visit_item-returns-in-Map : goal.visit_item-returns-in-Map
visit_item-returns-in-Map g t c =
    let h = c.in-Ok in
    headed_result (is_on g.row.FLOATS) g.V.Visitor.answer c.args.levels c.args.visitor.now c.visit_map.new.visitor c.args.bytes.now h.rest.now Map h.argument c.visit_map.result
    (h.ensures ∙ ap (λ (m : Major). Some (m, h.argument, h.rest.now)) c.in-Map.is) c.visit_map.ensures

pub visit_item-returns-in-Tag : goal.visit_item-returns-in-Tag
visit_item-returns-in-Tag g t c =
    let h = c.in-Ok in
    headed_result (is_on g.row.FLOATS) g.V.Visitor.answer c.args.levels c.args.visitor.now c.visit_link.new.visitor c.args.bytes.now h.rest.now Tag h.argument c.visit_link.result
    (h.ensures ∙ ap (λ (m : Major). Some (m, h.argument, h.rest.now)) c.in-Tag.is) (c.visit_link.ensures c.args.levels)

pub visit_item-returns-in-Simple : goal.visit_item-returns-in-Simple
visit_item-returns-in-Simple g t c =
    let h = c.in-Ok in
    headed_result (is_on g.row.FLOATS) g.V.Visitor.answer c.args.levels c.args.visitor.now c.visit_simple.new.visitor c.args.bytes.now h.rest.now Simple h.argument c.visit_simple.result
    (h.ensures ∙ ap (λ (m : Major). Some (m, h.argument, h.rest.now)) c.in-Simple.is) (c.visit_simple.ensures c.args.levels)

pub visit_list-loop-left-preserved : goal.visit_list-loop-left-preserved
visit_list-loop-left-preserved g t c =
    let l = c.loop-left in
    list_goes_on (is_on g.row.FLOATS) g.V.Visitor.answer c.in-Some.inner c.visit.new.self l.visitor c.visit_item.new.visitor c.args.count l.left c.args.bytes.now l.rest.now c.in_ok-after.after.now (omega (arith, c.loop-left-test.true)) l.invariant
    c.in_ok-after.ensures

pub visit_list-returns : goal.visit_list-returns
visit_list-returns g t c =
    let l = c.loop-left in
    let fits : suc c.in-Some.inner ≤ c.args.levels = search rules in
    list_visited (is_on g.row.FLOATS) g.V.Visitor.answer c.in-Some.inner c.args.levels c.args.visitor.now c.visit.new.self l.visitor c.visit-2.new.self c.args.count l.left c.args.bytes.now l.rest.now (omega (arith, c.loop-left-test.false)) fits
    (c.in_ok-visit.ensures false) l.invariant (c.in_ok-visit-2.ensures false)

pub visit_map-loop-left-init : goal.visit_map-loop-left-init
visit_map-loop-left-init g t c = map_opened (is_on g.row.FLOATS) g.V.Visitor.answer c.in-Some.inner c.visit.new.self c.args.count c.args.bytes.now

pub visit_map-loop-left-preserved : goal.visit_map-loop-left-preserved
visit_map-loop-left-preserved g t c =
    let l = c.loop-left in
    let k = c.in_ok-key in
    map_goes_on (is_on g.row.FLOATS) g.V.Visitor.answer c.in-Some.inner c.visit.new.self l.visitor c.visit-in-loop-left.new.self c.visit_item.new.visitor c.args.count l.left c.args.bytes.now l.last.now k.key.now l.rest.now k.behind.now c.in_ok-after.after.now
    (omega (arith, c.loop-left-test.true)) k.ensures (search rules) l.invariant (c.in_ok-visit-2.ensures false) c.in_ok-after.ensures

pub visit_map-returns : goal.visit_map-returns
visit_map-returns g t c =
    let l = c.loop-left in
    let fits : suc c.in-Some.inner ≤ c.args.levels = search rules in
    map_visited (is_on g.row.FLOATS) g.V.Visitor.answer c.in-Some.inner c.args.levels c.args.visitor.now c.visit.new.self l.visitor c.visit-2.new.self c.args.count l.left c.args.bytes.now l.last.now l.rest.now (omega (arith, c.loop-left-test.false)) fits
    (c.in_ok-visit.ensures false) l.invariant (c.in_ok-visit-3.ensures false)
