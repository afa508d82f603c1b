use Rattle.std.proofs.Common.{◌≤◌, length}
use Rattle.ipld_car.proofs.Skipping.{SkipsSoFar}
use Rattle.ipld_car.proofs.version2.skip_padding.Given as goal

abbrev pub decreases-loop-left : goal.decreases-loop-left
decreases-loop-left g l = l.left

-- what was skipped so far, how much is left, and how much is kept
abbrev pub invariant-loop-left : goal.invariant-loop-left
invariant-loop-left g l =
    SkipsSoFar (g.R.Read.remaining l.initial.reader) (g.R.Read.remaining l.reader) l.count l.left × (length l.scratch.items ≤ 4096)
