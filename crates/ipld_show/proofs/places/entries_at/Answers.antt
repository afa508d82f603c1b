use Rattle.std.proofs.Common.{◌+◌, ◌-◌, ◌++◌, refl, arith, rules}
use Rattle.std.proofs.lemmas.List.Sorted.{answers_always}
use Rattle.ipld_show.specs.DataItem.{encoding, entries_encoding}
use Rattle.ipld_show.specs.Extents.{entries_extents}
use Rattle.ipld_show.proofs.Items.{key_is, no_key_error}
use Rattle.ipld_show.proofs.Reached.{reaching_first, next_entry, begins_with_key, value_held, reaching_more, entries_sorted, no_behind}
use Rattle.ipld_show.proofs.places.entries_at.Goals as goal

pub loop-init : goal.loop-init
loop-init c = λ whole total es h n. reaching_first whole total es c.args.first c.new-entries.result.items (c.args.count - 0) h c.new-entries.ensures.items (omega (arith, n))

pub returns-in_default : goal.returns-in_default
returns-in_default c = λ whole total es h n.
    let left = c.args.count - c.loop.counter in
    let t = next_entry whole total es c.loop.place c.loop.entries.items left (c.loop.invariant whole total es h n) (omega arith) in
    absurd (no_key_error t.key c.loop.place.rest.now (encoding t.value ++ (entries_encoding t.others ++ t.holds.mid)) t.holds.are_entries.0 (begins_with_key whole total es c.loop.place c.loop.entries.items left t)
    c.in_default.field-0 c.in_default.ensures.rejected)

pub returns-in_default-after_item : goal.returns-in_default-after_item
returns-in_default-after_item c = λ whole total es h n.
    let left = c.args.count - c.loop.counter in
    let t = next_entry whole total es c.loop.place c.loop.entries.items left (c.loop.invariant whole total es h n) (omega arith) in
    let k = key_is t.key c.loop.place.rest.now (encoding t.value ++ (entries_encoding t.others ++ t.holds.mid)) t.holds.are_entries.0 (begins_with_key whole total es c.loop.place c.loop.entries.items left t)
    c.in-Ok.key.now c.in-Ok.rest.now c.in-Ok.ensures.found in
    let held = value_held whole total es c.loop.place c.loop.entries.items left t (record { rest = c.in-Ok.rest; containers = c.loop.place.containers }) k.1 refl in
    let b = c.after_item.ensures t.value (entries_encoding t.others ++ t.holds.mid) (entries_extents t.others ++ t.holds.post) held in
    absurd (no_behind c.after_item.result (entries_encoding t.others ++ t.holds.mid) (entries_extents t.others ++ t.holds.post) b c.in_default-after_item.not-Some)

pub loop-preserved : goal.loop-preserved
loop-preserved c = λ whole total es h n.
    let left = c.args.count - c.loop.counter in
    let t = next_entry whole total es c.loop.place c.loop.entries.items left (c.loop.invariant whole total es h n) (omega arith) in
    let k = key_is t.key c.loop.place.rest.now (encoding t.value ++ (entries_encoding t.others ++ t.holds.mid)) t.holds.are_entries.0 (begins_with_key whole total es c.loop.place c.loop.entries.items left t)
    c.in-Ok.key.now c.in-Ok.rest.now c.in-Ok.ensures.found in
    let held = value_held whole total es c.loop.place c.loop.entries.items left t (record { rest = c.in-Ok.rest; containers = c.loop.place.containers }) k.1 refl in
    let b = c.in-Some.ensures t.value (entries_encoding t.others ++ t.holds.mid) (entries_extents t.others ++ t.holds.post) held in
    reaching_more whole total es c.loop.place c.loop.entries.items left t (record { key = c.in-Ok.key; value = record { rest = c.in-Ok.rest; containers = c.loop.place.containers } }) c.in-Some.next
    c.push.new.self.items k.0 k.1 refl c.in_ok-push.ensures.items b (c.args.count - (c.loop.counter + 1)) (omega arith)

pub returns : goal.returns
returns c = λ whole total es h n.
    entries_sorted whole total es c.loop.place c.loop.entries.items c.sort_unstable_by_key.new.self.items (c.args.count - c.loop.counter) (c.loop.invariant whole total es h n) (omega arith)
    c.sort_unstable_by_key.ensures.permutation (c.sort_unstable_by_key.ensures.sorted (λ e. e.key) (answers_always _ _ _ (λ f a r next called. search rules)))
