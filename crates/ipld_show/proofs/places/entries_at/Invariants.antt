use Rattle.std.proofs.Common.{◌≡◌, ℕ, ◌-◌}
use Rattle.ipld_show.specs.DataItem.{DataItem, DataEntries, entry_count}
use Rattle.ipld_show.specs.Places.{HoldsEntries}
use Rattle.ipld_show.proofs.Reached.{Reaching}
use Rattle.ipld_show.proofs.places.entries_at.Given as goal

abbrev pub invariant-loop : goal.invariant-loop
invariant-loop l =
    (whole : DataItem) (total : ℕ) (es : DataEntries) → HoldsEntries whole total es l.fn.first → l.fn.count ≡ entry_count es
    → Reaching whole total es l.place l.entries.items (l.fn.count - l.counter)
