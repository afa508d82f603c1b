use Rattle.std.proofs.Common.{◌≡◌, ◌≤◌, length}
use Rattle.dag_cbor_format.specs.Trace.{cut}
use Rattle.dag_cbor_blocks.specs.LinkPositions.{position_of}
use Rattle.kombilad_c.specs.CidRecord.{record_with}
use Rattle.kombilad_c.proofs.Listing.{filled}
use Rattle.kombilad_c.proofs.links.fill_links.Given as goal

abbrev pub invariant-loop-at : goal.invariant-loop-at
invariant-loop-at l = record {
  few : length l.positions ≤ length l.buffer;
  so_far : l.buffer ≡ filled (λ position. record_with (cut (position_of position) l.block)) l.at l.positions l.initial.buffer;
}
