use Rattle.std.proofs.Common.{◌-◌, ℕ, List, ap, ◌∙◌, arith}
use Rattle.dag_cbor_blocks.specs.KeyList.{keys_now}
use Rattle.dag_cbor_tape.specs.Structure.{pairs}
use Rattle.dag_cbor_tape.proofs.Steps.{pairs_step}
use Rattle.dag_cbor_tape.proofs.structure.check_any_pairs.Goals as goal

pub loop-left-preserved : goal.loop-left-preserved
loop-left-preserved c = record {
  goes_on = ap (λ (ks : List (List ℕ)). pairs c.args.contents.now (c.loop-left.left - 1) ks c.in_ok-rest.rest.now) c.in_ok-add_key.ensures.added.1
      ∙ pairs_step c.args.contents.now c.loop-left.left (keys_now c.loop-left.seen.keys) c.loop-left.rest.now c.in_ok-key.value.now c.in_ok-rest.rest.now c.in_ok-key.key.now tt _
      (omega arith) c.in_ok-key.ensures.exact c.in_ok-add_key.ensures.added.0 c.in_ok-rest.ensures.exact c.loop-left.invariant.goes_on;
  shorter = omega (arith, c.in_ok-rest.ensures.shorter, c.in_ok-key.ensures.shorter);
}
