use Rattle.std.proofs.Common.{◌≡◌}
use Rattle.ipld_cli.specs.NewCar.{state_of}
use Rattle.ipld_cli.specs.Salvage.{found_cids}
use Rattle.ipld_cli.proofs.Salvaged.{PutsUpTo}
use Rattle.ipld_cli.proofs.salvage.SalvagedBlocksBlockSource.write_blocks.Given as goal

-- the blocks before the entries that are left were written
abbrev pub invariant-loop-cid : goal.invariant-loop-cid
invariant-loop-cid g l =
    PutsUpTo l.fn.sink.has_index l.fn.self.has_unknown l.cid-iterator (found_cids l.fn.self.salvage.now)
    (state_of g.W.Write.contents l.fn.sink) (state_of g.W.Write.contents l.sink)
    × (l.sink.has_index ≡ l.fn.sink.has_index)
