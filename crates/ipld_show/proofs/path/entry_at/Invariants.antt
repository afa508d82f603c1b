use Rattle.std.proofs.Common.{◌≡◌, ℕ, ◌++◌, List}
use Rattle.ipld_show.specs.AfterPath.{after_value}
use Rattle.ipld_show.specs.AtPath.{value_under}
use Rattle.ipld_show.specs.DataItem.{DataEntries, AreDataEntries, entry_count, entries_encoding}
use Rattle.ipld_show.proofs.Skips.{EntriesToCome}
use Rattle.ipld_show.proofs.path.entry_at.Given as goal

abbrev pub invariant-loop-left : goal.invariant-loop-left
invariant-loop-left l =
    (es : DataEntries) (behind : List ℕ) → AreDataEntries es → l.entries ≡ entry_count es → l.bytes ≡ entries_encoding es ++ behind
    → EntriesToCome l.name l.rest behind l.left (value_under l.name es) (after_value l.name es ++ behind)

abbrev pub decreases-loop-left : goal.decreases-loop-left
decreases-loop-left l = l.left
