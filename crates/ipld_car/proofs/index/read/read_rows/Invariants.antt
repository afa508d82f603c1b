use Rattle.std.proofs.Common.{◌-◌, ◌≤◌}
use Rattle.ipld_car.specs.IndexReading.{TakesRows, IsRow, AreRows}
use Rattle.ipld_car.proofs.index.Only.{GoesOn}
use Rattle.ipld_car.proofs.index.read.read_rows.Given as goal
use Rattle.ipld_car.proofs.index.Taking.{state_of}

abbrev pub decreases-loop-left : goal.decreases-loop-left
decreases-loop-left g l = l.left

-- the rows that were taken so far, and those that are to come
abbrev pub invariant-loop-left : goal.invariant-loop-left
invariant-loop-left g l =
    TakesRows l.code l.digest_len (l.count - l.left) (state_of (g.R.Read.remaining l.initial.reader) l.initial.entries.items) (state_of (g.R.Read.remaining l.reader) l.entries.items)
    × (l.left ≤ l.count)
    × GoesOn (IsRow l.code l.digest_len) (AreRows l.code l.digest_len l.count) l.left (g.R.Read.remaining l.initial.reader) (g.R.Read.remaining l.reader) l.initial.entries.items l.entries.items
