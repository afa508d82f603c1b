use Rattle.std.proofs.Common.{◌≡◌, ◌≤◌, length}
use Rattle.ipld_cid.specs.LinkOf.{link_of}
use Rattle.kombilad_c.specs.CidRecord.{record_of}
use Rattle.kombilad_c.proofs.Listing.{filled}
use Rattle.kombilad_c.proofs.car_open_part.fill_roots.Given as goal

abbrev pub invariant-loop-at : goal.invariant-loop-at
invariant-loop-at l = record {
  few : length l.cids ≤ length l.buffer;
  so_far : l.buffer ≡ filled (λ cid. record_of (link_of cid)) l.at l.cids l.initial.buffer;
}
