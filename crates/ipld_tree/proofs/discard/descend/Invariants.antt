use Rattle.std.proofs.Common.{◌≡◌, ◌+◌}
use Rattle.ipld_tree.specs.Size.{size}
use Rattle.ipld_tree.proofs.discard.descend.Given as goal

abbrev pub invariant-loop-value : goal.invariant-loop-value
invariant-loop-value l = size l.outer + size l.value ≡ size l.fn.outer + size l.fn.value

abbrev pub decreases-loop-value : goal.decreases-loop-value
decreases-loop-value l = size l.value
