use Rattle.ipld_car.proofs.Takings.{FillsSoFar}
use Rattle.ipld_car.proofs.fill.fill.Given as goal

-- what was taken so far, and how much is left
abbrev pub invariant-loop : goal.invariant-loop
invariant-loop g l = FillsSoFar (g.R.Read.remaining l.initial.reader) (g.R.Read.remaining l.reader) l.initial.taken.items l.taken.items l.count l.left
