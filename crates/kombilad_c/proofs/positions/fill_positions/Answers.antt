use Rattle.std.proofs.Common.{length-set, arith}
use Rattle.dag_cbor_blocks.specs.declared.link_position.LinkPosition.{LinkPosition}
use Rattle.dag_cbor_blocks.specs.LinkPositions.{position_of}
use Rattle.kombilad_c.specs.declared.positions.Span.{Span}
use Rattle.kombilad_c.specs.Block.{span_of}
use Rattle.kombilad_c.proofs.Listing.{filled_after}
use Rattle.kombilad_c.proofs.positions.fill_positions.Goals as goal

pub loop-at-preserved : goal.loop-at-preserved
loop-at-preserved c = record {
  few = omega (arith, c.loop-at.invariant.few, length-set {A = Span});
  so_far = filled_after (λ (position : LinkPosition). span_of (position_of position)) c.loop-at.at c.args.positions.now c.args.buffer.now c.loop-at.buffer (record { offset = 0; length = 0 }) c.of.result
      c.loop-at.invariant.so_far c.of.ensures c.loop-at-test.true c.loop-at.invariant.few c.loop-at.auto.buffer;
}
