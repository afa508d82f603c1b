use Rattle.std.proofs.Common.{◌∙◌, sym, arith}
use Rattle.std.specs.Prelude.{option_map}
use Rattle.dag_cbor_tape.proofs.Steps.{ascending_step}
use Rattle.dag_cbor_tape.proofs.structure.pairs_ascend.Goals as goal

pub loop-left-preserved : goal.loop-left-preserved
loop-left-preserved c = record {
  goes_on = ascending_step c.args.contents.now c.loop-left.left (option_map (λ last. last.now) c.loop-left.last) c.loop-left.rest.now c.in_ok-key.value.now
      c.in_ok-rest.rest.now c.in_ok-key.key.now _ (omega arith) c.in_ok-key.ensures.exact (sym c.comes_next.ensures ∙ c.if-not-comes_next.false) c.in_ok-rest.ensures.exact
      c.loop-left.invariant.goes_on;
  shorter = omega (arith, c.in_ok-rest.ensures.shorter, c.in_ok-key.ensures.shorter);
}
