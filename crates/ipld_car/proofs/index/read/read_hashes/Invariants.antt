use Rattle.std.proofs.Common.{◌-◌, ◌≤◌}
use Rattle.ipld_car.specs.IndexLayout.{IsHash, Parts}
use Rattle.ipld_car.specs.IndexReading.{TakesPart}
use Rattle.ipld_car.proofs.index.Only.{GoesOn}
use Rattle.ipld_car.proofs.index.read.read_hashes.Given as goal
use Rattle.ipld_car.proofs.index.Taking.{state_of}

abbrev pub decreases-loop-left : goal.decreases-loop-left
decreases-loop-left g l = l.left

-- the rows of the hash functions that were taken so far, and those that are to come
abbrev pub invariant-loop-left : goal.invariant-loop-left
invariant-loop-left g l =
    TakesPart (Parts IsHash (l.count - l.left)) (state_of (g.R.Read.remaining l.initial.reader) l.initial.entries.items) (state_of (g.R.Read.remaining l.reader) l.entries.items)
    × (l.left ≤ l.count)
    × GoesOn IsHash (Parts IsHash l.count) l.left (g.R.Read.remaining l.initial.reader) (g.R.Read.remaining l.reader) l.initial.entries.items l.entries.items
