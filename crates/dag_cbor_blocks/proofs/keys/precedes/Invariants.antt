use Rattle.std.proofs.Common.{◌≡◌, length}
use Rattle.dag_cbor_format.specs.Canonical.{is_before}
use Rattle.dag_cbor_blocks.proofs.KeyBytes.{Bytes}
use Rattle.dag_cbor_blocks.proofs.keys.precedes.Given as goal

abbrev pub invariant-loop-front : goal.invariant-loop-front
invariant-loop-front l = (is_before l.bytes l.others ≡ is_before l.left l.right) × Bytes l.left × Bytes l.right

abbrev pub decreases-loop-front : goal.decreases-loop-front
decreases-loop-front l = length l.left
