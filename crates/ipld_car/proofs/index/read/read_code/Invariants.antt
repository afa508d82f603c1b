use Rattle.ipld_car.proofs.index.Formats.{ReadsCode}
use Rattle.ipld_car.proofs.index.read.read_code.Given as goal

-- the groups that were read
abbrev pub invariant-loop-place : goal.invariant-loop-place
invariant-loop-place g l = ReadsCode (g.R.Read.remaining l.fn.reader) (g.R.Read.remaining l.reader) l.code l.place
