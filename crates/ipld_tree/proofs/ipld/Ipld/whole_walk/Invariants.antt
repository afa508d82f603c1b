use Rattle.std.proofs.Common.{◌≡◌, ◌+◌, length}
use Rattle.ipld_tree.specs.TreeOf.{tree_of}
use Rattle.ipld_tree.specs.Walk.{preorder, containers, nest}
use Rattle.ipld_tree.specs.Levels.{rest, iterations_left}
use Rattle.ipld_tree.proofs.ipld.Ipld.whole_walk.Given as goal

abbrev pub invariant-loop : goal.invariant-loop
invariant-loop l =
    let walk = preorder (tree_of l.self) in
    record {
      iterations : l.walk.iterations + iterations_left l.walk ≡ length walk + containers walk + 2;
      capacity : l.walk.capacity ≡ 1 + nest (tree_of l.self);
    }

abbrev pub decreases-loop : goal.decreases-loop
decreases-loop l = length (rest l.walk)
