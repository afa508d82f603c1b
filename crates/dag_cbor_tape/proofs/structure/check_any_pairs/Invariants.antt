use Rattle.std.proofs.Common.{◌≡◌, ◌≤◌, length, []}
use Rattle.dag_cbor_blocks.specs.KeyList.{keys_now}
use Rattle.dag_cbor_tape.specs.Structure.{pairs}
use Rattle.dag_cbor_tape.proofs.structure.check_any_pairs.Given as goal

abbrev pub invariant-loop-left : goal.invariant-loop-left
invariant-loop-left l = record {
  goes_on : pairs l.contents l.left (keys_now l.seen.keys) l.rest ≡ pairs l.contents l.count [] l.entries;
  shorter : length l.rest ≤ length l.entries;
}

abbrev pub decreases-loop-left : goal.decreases-loop-left
decreases-loop-left l = l.left
