use Rattle.std.proofs.Common.{arith}
use Rattle.dag_cbor_tape.proofs.Steps.{values_step}
use Rattle.dag_cbor_tape.proofs.structure.check_values.Goals as goal

pub loop-left-preserved : goal.loop-left-preserved
loop-left-preserved c = record {
  goes_on = values_step c.loop-left.left c.loop-left.rest.now c.in_ok-rest.rest.now _ (omega arith) c.in_ok-rest.ensures.exact c.loop-left.invariant.goes_on;
  shorter = omega (arith, c.in_ok-rest.ensures.shorter);
}
