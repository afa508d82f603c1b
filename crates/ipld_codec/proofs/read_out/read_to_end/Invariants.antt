use Rattle.std.specs.Io.KnownBytes.{Consumes}
use Rattle.ipld_codec.proofs.read_out.read_to_end.Given as goal

-- the bytes that the reader has lost are those that were taken
abbrev pub invariant-loop : goal.invariant-loop
invariant-loop g l = Consumes (g.R.Read.remaining l.initial.reader) (g.R.Read.remaining l.reader) l.bytes.items
