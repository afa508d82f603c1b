use Rattle.std.proofs.Common.{◌∷◌, flat_map}
use Rattle.std.specs.Io.KnownBytes.{Appends}
use Rattle.ipld_show.specs.Scalars.{character}
use Rattle.ipld_show.proofs.scalars.write_string.Given as goal

abbrev pub invariant-loop-c : goal.invariant-loop-c
invariant-loop-c g l = Appends (g.W.Write.contents l.fn.writer) (g.W.Write.contents l.writer) (34 ∷ flat_map character l.yielded)
