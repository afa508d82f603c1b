use Rattle.std.proofs.Common.{◌≡◌, ◌≤◌}
use Rattle.ipld_cli.specs.NewCar.{kept_cids, state_of, Puts}
use Rattle.ipld_cli.proofs.collected_blocks.BlockRangeBlockSource.write_blocks.Given as goal

-- the blocks of the inputs so far were written
abbrev pub invariant-loop-input : goal.invariant-loop-input
invariant-loop-input g l =
    Puts l.fn.sink.has_index l.fn.self.collected.now.options.is_unchecked (kept_cids l.fn.self.collected.now l.fn.self.begin l.next)
    (state_of g.W.Write.contents l.fn.sink) (state_of g.W.Write.contents l.sink)
    × (l.sink.has_index ≡ l.fn.sink.has_index) × (l.fn.self.begin ≤ l.next)
