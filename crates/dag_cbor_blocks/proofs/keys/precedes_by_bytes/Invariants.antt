use Rattle.std.proofs.Common.{◌≡◌, length}
use Rattle.dag_cbor_format.specs.Canonical.{is_before}
use Rattle.dag_cbor_blocks.proofs.keys.precedes_by_bytes.Given as goal

abbrev pub invariant-loop-left : goal.invariant-loop-left
invariant-loop-left l = is_before l.bytes l.others ≡ is_before l.left l.right

abbrev pub decreases-loop-left : goal.decreases-loop-left
decreases-loop-left l = length l.left
