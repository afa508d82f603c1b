use Rattle.std.proofs.Common.{◌≡◌, ◌≤◌}
use Rattle.ipld_cli.specs.NewCar.{kept_cids, state_of, Puts}
use Rattle.ipld_cli.proofs.collected_blocks.BlockRange.write_sections.Given as goal

-- the sections of the blocks up to this number were written
abbrev pub invariant-loop : goal.invariant-loop
invariant-loop g l =
    Puts l.fn.sink.has_index l.fn.self.collected.now.options.is_unchecked (kept_cids l.fn.self.collected.now l.fn.begin l.number)
    (state_of g.W.Write.contents l.fn.sink) (state_of g.W.Write.contents l.sink)
    × (l.sink.has_index ≡ l.fn.sink.has_index) × (l.fn.begin ≤ l.number) × (l.number ≤ l.fn.end)
