use Rattle.std.proofs.Common.{◌≡◌, ◌≤◌, length}
use Rattle.dag_cbor_tape.specs.Structure.{values}
use Rattle.dag_cbor_tape.proofs.structure.check_values.Given as goal

abbrev pub invariant-loop-left : goal.invariant-loop-left
invariant-loop-left l = record {
  goes_on : values l.left l.rest ≡ values l.count l.entries;
  shorter : length l.rest ≤ length l.entries;
}

abbrev pub decreases-loop-left : goal.decreases-loop-left
decreases-loop-left l = l.left
