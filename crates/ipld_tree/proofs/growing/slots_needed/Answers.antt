use Rattle.std.proofs.Common.{arith}
use Rattle.std.proofs.lemmas.Grind.{common_steps}
use Rattle.ipld_tree.specs.Growing.{levels_in}
use Rattle.ipld_tree.proofs.Walking.{held_within}
use Rattle.ipld_tree.proofs.growing.slots_needed.Goals as goal

pub loop-walk-preserved : goal.loop-walk-preserved
loop-walk-preserved c =
    let step = rw c.in-Some-2.is at c.in_ok-next.ensures in
    let within = held_within (levels_in c.next.new.self) in
    let kept = step.1.slots in
    record {
      nested = grind (arith, common_steps, within, kept, c.loop-walk.invariant.nested, c.loop-walk.invariant.held);
      held = grind (arith, common_steps);
      whole = λ h. c.loop-walk.invariant.whole (step.1.whole h);
    }
