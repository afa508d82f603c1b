use Rattle.std.proofs.Common.{length-set, ap, ◌∙◌, arith}
use Rattle.dag_cbor_format.specs.Trace.{cut}
use Rattle.dag_cbor_blocks.specs.LinkPositions.{position_of}
use Rattle.dag_cbor_blocks.specs.declared.link_position.LinkPosition.{LinkPosition}
use Rattle.kombilad_c.specs.declared.cid_record.CidBytes.{CidBytes}
use Rattle.kombilad_c.specs.CidRecord.{record_with}
use Rattle.kombilad_c.proofs.Listing.{filled_after}
use Rattle.kombilad_c.proofs.links.fill_links.Goals as goal

pub loop-at-preserved : goal.loop-at-preserved
loop-at-preserved c = record {
  few = omega (arith, c.loop-at.invariant.few, length-set {A = CidBytes});
  so_far = filled_after (λ (position : LinkPosition). record_with (cut (position_of position) c.args.block.now)) c.loop-at.at c.args.positions.now c.args.buffer.now c.loop-at.buffer (record { offset = 0; length = 0 }) c.with.result
      c.loop-at.invariant.so_far (c.with.ensures ∙ ap record_with c.bytes_at.ensures) c.loop-at-test.true c.loop-at.invariant.few c.loop-at.auto.buffer;
}
