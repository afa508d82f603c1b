use Rattle.std.proofs.Common.{ℕ, ◌≤◌, List, length}
use Rattle.ipld_show.specs.DataItem.{DataItem, BeginsWithItem}
use Rattle.ipld_show.proofs.Skips.{ToCome}
use Rattle.ipld_show.proofs.path.item_size.Given as goal

abbrev pub invariant-loop-left : goal.invariant-loop-left
invariant-loop-left l = (length l.rest ≤ length l.bytes) × ((d : DataItem) (behind : List ℕ) → BeginsWithItem d l.bytes behind → ToCome l.rest behind l.left)

abbrev pub decreases-loop-left : goal.decreases-loop-left
decreases-loop-left l = length l.rest
