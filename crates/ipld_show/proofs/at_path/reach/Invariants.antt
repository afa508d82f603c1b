use Rattle.std.proofs.Common.{ℕ, ◌+◌, ◌≤◌, List, length}
use denote.Text.{Utf8}
use denote.Shadow.{shadow}
use Rattle.ipld_show.specs.DataItem.{DataItem, BeginsWithItem}
use Rattle.ipld_show.proofs.Reaching.{Reaching}
use Rattle.ipld_show.proofs.at_path.reach.Given as goal

abbrev pub invariant-loop-part : goal.invariant-loop-part
invariant-loop-part l =
    shadow (Utf8 l.rest) × (l.before + length l.rest ≤ length l.path)
    × ((d : DataItem) (behind : List ℕ) → BeginsWithItem d l.block behind → Reaching d l.path behind l.value l.rest l.before)

abbrev pub decreases-loop-part : goal.decreases-loop-part
decreases-loop-part l = length l.rest
