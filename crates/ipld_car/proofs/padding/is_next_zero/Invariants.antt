use Rattle.std.specs.Io.KnownBytes.{Keeps}
use Rattle.ipld_car.proofs.padding.is_next_zero.Given as goal

-- nothing was taken
abbrev pub invariant-loop : goal.invariant-loop
invariant-loop g l = Keeps (g.R.Read.remaining l.initial.reader) (g.R.Read.remaining l.reader)
