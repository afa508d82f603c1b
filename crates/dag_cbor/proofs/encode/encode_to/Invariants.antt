use Rattle.std.proofs.Common.{◌+◌, length}
use Rattle.dag_cbor.specs.Cursors.{all_left, load_of, Goes}
use Rattle.dag_cbor.proofs.encode.encode_to.Given as goal

abbrev pub invariant-loop-outer : goal.invariant-loop-outer
invariant-loop-outer l = Goes (all_left l.initial.innermost l.initial.outer.items) l.initial.out.items (all_left l.innermost l.outer.items) l.out.items

abbrev pub decreases-loop-outer : goal.decreases-loop-outer
decreases-loop-outer l = load_of (all_left l.innermost l.outer.items) + length l.outer.items
