use Rattle.std.proofs.Common.{◌≤◌}
use Rattle.ipld_tree.specs.Size.{size}
use Rattle.ipld_tree.proofs.discard.ascend.Given as goal

abbrev pub invariant-loop-container : goal.invariant-loop-container
invariant-loop-container l = size l.container ≤ size l.fn.container

abbrev pub decreases-loop-container : goal.decreases-loop-container
decreases-loop-container l = size l.container
