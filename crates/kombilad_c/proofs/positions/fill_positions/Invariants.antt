use Rattle.std.proofs.Common.{◌≡◌, ◌≤◌, length}
use Rattle.dag_cbor_blocks.specs.LinkPositions.{position_of}
use Rattle.kombilad_c.specs.Block.{span_of}
use Rattle.kombilad_c.proofs.Listing.{filled}
use Rattle.kombilad_c.proofs.positions.fill_positions.Given as goal

abbrev pub invariant-loop-at : goal.invariant-loop-at
invariant-loop-at l = record {
  few : length l.positions ≤ length l.buffer;
  so_far : l.buffer ≡ filled (λ position. span_of (position_of position)) l.at l.positions l.initial.buffer;
}
