use Rattle.std.proofs.Common.{length}
use Rattle.ipld_tree.specs.Growing.{levels_in, Reached}
use Rattle.ipld_tree.proofs.growing.GrowingWalk.next.Given as goal

abbrev pub invariant-loop-value : goal.invariant-loop-value
invariant-loop-value l = Reached (levels_in l.fn.self) (levels_in l.self)

abbrev pub decreases-loop-value : goal.decreases-loop-value
decreases-loop-value l = length (levels_in l.self)
