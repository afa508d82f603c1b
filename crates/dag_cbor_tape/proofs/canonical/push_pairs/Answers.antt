use Rattle.std.proofs.Common.{refl, ◌∙◌, arith}
use Rattle.dag_cbor_tape.proofs.Entering.{pair_pushed}
use Rattle.dag_cbor_tape.proofs.Loop.{not_some}
use Rattle.dag_cbor_tape.proofs.Stepping.{all_pushed}
use Rattle.dag_cbor_tape.proofs.canonical.push_pairs.Goals as goal

pub loop-entries-preserved : goal.loop-entries-preserved
loop-entries-preserved c =
    pair_pushed c.pop.new.self.items c.loop-entries.pairs.items _ c.loop-entries.todo.items c.push.new.self.items c.in-Some.entries c.in-Some.ensures.items c.in_ok-push.ensures.items refl
    ∙ c.loop-entries.invariant

pub returns : goal.returns
returns c =
    let none = (not_some c.pop.result _ _ c.in_default.not-Some c.pop.ensures.cases).0 in
    all_pushed c.loop-entries.pairs.items _ _ (omega (arith, none, c.loop-entries.pairs.ok)) c.loop-entries.invariant
