use Rattle.std.proofs.Common.{◌≡◌}
use Rattle.dag_cbor_format.specs.Trace.{trace_of}
use Rattle.dag_cbor_blocks.proofs.Switches.{is_on}
use Rattle.dag_cbor_blocks.specs.Position.{steps_left}
use Rattle.dag_cbor_blocks.specs.BlockReading.{ahead_of}
use Rattle.dag_cbor_blocks.proofs.block.read_events.Given as goal

-- what is ahead ends as the block does, and the visitor comes to what it would come to of the whole block
abbrev pub invariant-loop-position : goal.invariant-loop-position
invariant-loop-position g l =
    ((ahead_of (is_on g.row.FLOATS) l.position).error ≡ (trace_of (is_on g.row.FLOATS) l.bytes).error)
    × (g.V.BorrowingVisitor.answer l.visitor (ahead_of (is_on g.row.FLOATS) l.position).events ≡ g.V.BorrowingVisitor.answer l.fn.visitor (trace_of (is_on g.row.FLOATS) l.bytes).events)

abbrev pub decreases-loop-position : goal.decreases-loop-position
decreases-loop-position g l = steps_left l.position
