use Rattle.ipld_tree.specs.Size.{size}
use Rattle.ipld_tree.proofs.discard.discard_by_loop.Given as goal

abbrev pub decreases-loop-outer : goal.decreases-loop-outer
decreases-loop-outer l = size l.left
