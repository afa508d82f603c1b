use Rattle.std.specs.Prelude.{◌≢◌, []}
use Rattle.ipld_codec.specs.WriteOut.{WritesFront}
use Rattle.ipld_car.proofs.write_all.write_all.Given as goal

-- what was written is what stands before the rest
abbrev pub invariant-loop : goal.invariant-loop
invariant-loop g l = WritesFront (g.W.Write.contents l.initial.writer) (g.W.Write.contents l.writer) l.fn.bytes l.rest
    × (l.rest ≢ [])
