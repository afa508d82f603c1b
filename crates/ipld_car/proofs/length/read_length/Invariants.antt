use Rattle.ipld_car.proofs.LengthReading.{ReadsGroups}
use Rattle.ipld_car.proofs.length.read_length.Given as goal

-- the groups that were read
abbrev pub invariant-loop-place : goal.invariant-loop-place
invariant-loop-place g l = ReadsGroups (g.R.Read.remaining l.fn.reader) (g.R.Read.remaining l.reader) l.taken.items l.value l.place l.room
