use Rattle.std.proofs.Common.{ℕ, List, length}
use Rattle.ipld_show.specs.DataItem.{DataItem, BeginsWithItem}
use Rattle.ipld_show.specs.Extents.{extents}
use Rattle.ipld_show.specs.ExtentsToCome.{ItemPending}
use Rattle.ipld_show.proofs.containers.containers_of.Given as goal

abbrev pub invariant-loop-head : goal.invariant-loop-head
invariant-loop-head l = (d : DataItem) (behind : List ℕ) → BeginsWithItem d l.value behind → ItemPending l.opened.items l.rest l.containers.items (extents d)

abbrev pub decreases-loop-head : goal.decreases-loop-head
decreases-loop-head l = length l.rest
