use Rattle.std.proofs.Common.{◌≡◌, ℕ, ◌++◌, List}
use Rattle.ipld_show.specs.AfterPath.{after_item}
use Rattle.ipld_show.specs.AtPath.{item_at}
use Rattle.ipld_show.specs.DataItem.{DataItems, AreDataItems, item_count, items_encoding}
use Rattle.ipld_show.proofs.Skips.{ItemsToCome}
use Rattle.ipld_show.proofs.path.item_at.Given as goal

abbrev pub invariant-loop-left : goal.invariant-loop-left
invariant-loop-left l =
    (ds : DataItems) (behind : List ℕ) → AreDataItems ds → l.items ≡ item_count ds → l.bytes ≡ items_encoding ds ++ behind
    → ItemsToCome l.rest behind l.left (item_at l.index ds) (after_item l.index ds ++ behind)

abbrev pub decreases-loop-left : goal.decreases-loop-left
decreases-loop-left l = l.left
