use Rattle.std.proofs.Common.{length}
use Rattle.ipld_tree.specs.TreeOf.{tree_of}
use Rattle.ipld_tree.specs.Walk.{preorder}
use Rattle.ipld_tree.specs.Levels.{rest}
use Rattle.dag_json.proofs.ReservedMaps.{Passed}
use Rattle.dag_json.proofs.reserved.find_reserved.Given as goal

abbrev pub invariant-loop-value : goal.invariant-loop-value
invariant-loop-value l = Passed (preorder (tree_of l.tree)) (rest l.walk) l.place

abbrev pub decreases-loop-value : goal.decreases-loop-value
decreases-loop-value l = length (rest l.walk)
