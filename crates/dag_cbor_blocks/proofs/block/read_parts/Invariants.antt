use Rattle.std.proofs.Common.{false, length}
use Rattle.dag_cbor_blocks.proofs.Switches.{is_on}
use Rattle.dag_cbor_blocks.specs.Position.{kinds_of, steps_left}
use Rattle.dag_cbor_blocks.specs.BlockReading.{ahead_of}
use Rattle.dag_cbor_blocks.proofs.WithinSteps.{Goes}
use Rattle.dag_cbor_blocks.proofs.block.read_parts.Given as goal

abbrev pub invariant-loop-counter : goal.invariant-loop-counter
invariant-loop-counter g l =
    Goes (is_on g.row.FLOATS) g.V.BorrowingVisitor.answer l.fn.limits l.fn.position.rest.now l.fn.visitor (kinds_of l.position) false (ahead_of (is_on g.row.FLOATS) l.position) l.position.begun (length l.position.rest.now) l.counter l.visitor

abbrev pub decreases-loop-counter : goal.decreases-loop-counter
decreases-loop-counter g l = steps_left l.position
