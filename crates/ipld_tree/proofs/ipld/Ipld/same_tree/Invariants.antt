use Rattle.std.proofs.Common.{◌≡◌, length}
use Rattle.ipld_tree.specs.TreeOf.{tree_of}
use Rattle.ipld_tree.specs.Equal.{tree_eq}
use Rattle.ipld_tree.specs.Heads.{heads_eq}
use Rattle.ipld_tree.specs.Levels.{trees_left}
use Rattle.ipld_tree.specs.Growing.{levels_in}
use Rattle.ipld_tree.proofs.ipld.Ipld.same_tree.Given as goal

abbrev pub invariant-loop-theirs : goal.invariant-loop-theirs
invariant-loop-theirs l = tree_eq (tree_of l.self) (tree_of l.other) ≡ heads_eq (trees_left (levels_in l.ours)) (trees_left (levels_in l.theirs))

abbrev pub decreases-loop-theirs : goal.decreases-loop-theirs
decreases-loop-theirs l = length (trees_left (levels_in l.ours))
