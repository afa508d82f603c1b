use Rattle.std.proofs.Common.{◌≡◌, ◌≤◌, length, None}
use Rattle.std.specs.Prelude.{option_map}
use Rattle.dag_cbor_tape.specs.Structure.{ascending}
use Rattle.dag_cbor_tape.proofs.structure.pairs_ascend.Given as goal

abbrev pub invariant-loop-left : goal.invariant-loop-left
invariant-loop-left l = record {
  goes_on : ascending l.contents l.left (option_map (λ last. last.now) l.last) l.rest ≡ ascending l.contents l.count None l.entries;
  shorter : length l.rest ≤ length l.entries;
}

abbrev pub decreases-loop-left : goal.decreases-loop-left
decreases-loop-left l = l.left
