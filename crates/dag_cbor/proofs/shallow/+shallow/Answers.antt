use Rattle.std.proofs.Common.{◌≤◌, ◌-◌, suc, Some, ap, ◌∙◌, rules, arith}
use Rattle.dag_cbor_format.specs.declared.major.Major.{Major}
use Rattle.dag_cbor.proofs.FrontReads.{unsigned_read, negative_read, unsigned_added, negative_added, content_added, entered, list_begun, list_goes_on, list_done, map_begun, map_flat, map_goes_on, map_stays_flat, map_done, entries_begun, entries_go_on, entries_done, entry_added}
use Rattle.dag_cbor.proofs.shallow.+shallow.Goals as goal

pub read_content-returns-in-Unsigned : goal.read_content-returns-in-Unsigned
read_content-returns-in-Unsigned t c = rw c.in-Unsigned.is (unsigned_read c.args.levels c.args.argument c.args.bytes.now _ (search (c.from.ensures, rules)))

pub read_content-returns-in-Negative : goal.read_content-returns-in-Negative
read_content-returns-in-Negative t c = rw c.in-Negative.is (negative_read c.args.levels c.args.argument c.args.bytes.now _ (search (c.from-in-Negative.ensures, rules)))

pub read_content-returns-in-Bytes : goal.read_content-returns-in-Bytes
read_content-returns-in-Bytes t c = rw c.in-Bytes.is (c.read_byte_string.ensures c.args.levels)

pub read_content-returns-in-Text : goal.read_content-returns-in-Text
read_content-returns-in-Text t c = rw c.in-Text.is (c.read_text_string.ensures c.args.levels)

pub read_content-returns-in-Tag : goal.read_content-returns-in-Tag
read_content-returns-in-Tag t c = rw c.in-Tag.is (c.read_link.ensures c.args.levels)

pub read_content-returns-in-Simple : goal.read_content-returns-in-Simple
read_content-returns-in-Simple t c = rw c.in-Simple.is (c.read_simple.ensures c.args.levels)

pub add_item-returns-in_ok-push_item-in-Unsigned : goal.add_item-returns-in_ok-push_item-in-Unsigned
add_item-returns-in_ok-push_item-in-Unsigned t c =
    let h = c.in_ok-major in
    unsigned_added c.args.levels h.argument c.args.bytes.now h.rest.now _ _ _ (h.ensures ∙ ap (λ (m : Major). Some (m, h.argument, h.rest.now)) c.in-Unsigned.is) c.in_ok-push_item-in-Unsigned.ensures
    (search (c.from.ensures, rules))

pub add_item-returns-in_ok-push_item-in-Negative : goal.add_item-returns-in_ok-push_item-in-Negative
add_item-returns-in_ok-push_item-in-Negative t c =
    let h = c.in_ok-major in
    negative_added c.args.levels h.argument c.args.bytes.now h.rest.now _ _ _ (h.ensures ∙ ap (λ (m : Major). Some (m, h.argument, h.rest.now)) c.in-Negative.is) c.in_ok-push_item-in-Negative.ensures
    (search (c.from-in-Negative.ensures, rules))

pub add_item-returns-in_default : goal.add_item-returns-in_default
add_item-returns-in_default t c =
    let h = c.in_ok-major in
    content_added c.args.levels c.args.bytes.now h.major h.argument h.rest.now _ _ c.add_content.result h.ensures c.add_content.ensures

pub add_entry-returns : goal.add_entry-returns
add_entry-returns t c =
    let k = c.in_ok-key in
    let h = c.in_ok-major in
    entered c.args.levels _ _ c.in_ok-name.name c.read_content.new.value c.args.bytes.now k.key.now k.behind.now h.more.now h.major h.argument c.in_ok-rest.rest.now k.ensures c.in_ok-name.ensures.ok h.ensures c.in_ok-rest.ensures
    c.in_ok-insert_member.ensures.absent c.in_ok-insert_member.ensures.put

pub read_list-loop-left-init : goal.read_list-loop-left-init
read_list-loop-left-init t c = list_begun c.in-Some.inner c.args.count c.args.bytes.now c.in_ok-items.items.items c.in_ok-items.ensures

pub read_list-loop-left-preserved : goal.read_list-loop-left-preserved
read_list-loop-left-preserved t c =
    let l = c.loop-left in
    list_goes_on c.in-Some.inner c.args.count c.args.bytes.now l.items.items _ l.left (l.left - 1) l.rest.now _ (omega (arith, c.loop-left-test.true)) c.in_ok-after.ensures l.invariant

pub read_list-returns : goal.read_list-returns
read_list-returns t c =
    let l = c.loop-left in
    let fits : suc c.in-Some.inner ≤ c.args.levels = search rules in
    list_done c.args.levels c.in-Some.inner c.args.count c.args.bytes.now l.rest.now l.items l.left (omega (arith, c.loop-left-test.false)) fits l.invariant

pub read_map-loop-left-init : goal.read_map-loop-left-init
read_map-loop-left-init t c =
    record {
      flat = map_flat c.in-Some.inner c.new-members.result.entries c.new-members.ensures.empty;
      left = map_begun c.args.count c.args.bytes.now c.new-members.result.entries c.new-members.ensures.empty;
    }

pub read_map-loop-left-preserved : goal.read_map-loop-left-preserved
read_map-loop-left-preserved t c =
    let l = c.loop-left in
    record {
      flat = map_stays_flat c.in-Some.inner l.members.entries _ l.rest.now _ c.in_ok-after.ensures l.invariant.flat;
      left = map_goes_on c.in-Some.inner c.args.count c.args.bytes.now l.members.entries _ l.left (l.left - 1) l.rest.now _ (omega (arith, c.loop-left-test.true)) c.in_ok-after.ensures l.invariant.left;
    }

pub read_map-returns : goal.read_map-returns
read_map-returns t c =
    let l = c.loop-left in
    let fits : suc c.in-Some.inner ≤ c.args.levels = search rules in
    map_done c.args.levels c.in-Some.inner c.args.count c.args.bytes.now l.rest.now l.members l.left (omega (arith, c.loop-left-test.false)) fits l.invariant.flat l.invariant.left

pub push_entry-returns : goal.push_entry-returns
push_entry-returns t c =
    let k = c.in_ok-key in
    let h = c.in_ok-major in
    entry_added c.args.levels _ _ c.in_ok-name.name c.read_content.new.value c.args.bytes.now k.key.now k.behind.now h.more.now h.major h.argument c.in_ok-rest.rest.now k.ensures c.in_ok-name.ensures.ok h.ensures
    c.in_ok-rest.ensures c.in_ok-push_item.ensures

pub read_large_map-loop-left-init : goal.read_large_map-loop-left-init
read_large_map-loop-left-init t c = entries_begun c.in-Some.inner c.args.count c.args.bytes.now c.in_ok-entries.entries.items c.in_ok-entries.ensures

pub read_large_map-loop-left-preserved : goal.read_large_map-loop-left-preserved
read_large_map-loop-left-preserved t c =
    let l = c.loop-left in
    entries_go_on c.in-Some.inner c.args.count c.args.bytes.now l.entries.items _ l.left (l.left - 1) l.rest.now _ (omega (arith, c.loop-left-test.true)) c.in_ok-after.ensures l.invariant

pub read_large_map-returns : goal.read_large_map-returns
read_large_map-returns t c =
    let l = c.loop-left in
    let fits : suc c.in-Some.inner ≤ c.args.levels = search rules in
    entries_done c.args.levels c.in-Some.inner c.args.count c.args.bytes.now l.rest.now l.entries.items c.in_ok-members.members l.left (omega (arith, c.loop-left-test.false)) fits c.in_ok-members.ensures l.invariant
