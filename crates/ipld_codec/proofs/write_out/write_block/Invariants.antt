use Rattle.std.specs.Prelude.{◌≢◌, []}
use Rattle.ipld_codec.specs.WriteOut.{WritesFront}
use Rattle.ipld_codec.proofs.write_out.write_block.Given as goal

-- what was written is what stands before the rest
abbrev pub invariant-loop : goal.invariant-loop
invariant-loop g l = WritesFront (g.W.Write.contents l.initial.writer) (g.W.Write.contents l.writer) l.fn.block l.rest
    × (l.rest ≢ [])
