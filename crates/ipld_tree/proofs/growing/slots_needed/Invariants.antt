use Rattle.std.proofs.Common.{◌≡◌, ◌≤◌, ◌+◌, max, length}
use Rattle.ipld_tree.specs.IsWhole.{IsWhole}
use Rattle.ipld_tree.specs.TreeOf.{tree_of}
use Rattle.ipld_tree.specs.Walk.{nest}
use Rattle.ipld_tree.specs.Levels.{slots, trees_left}
use Rattle.ipld_tree.specs.Growing.{levels_in, LeftWhole}
use Rattle.ipld_tree.proofs.growing.slots_needed.Given as goal

abbrev pub invariant-loop-walk : goal.invariant-loop-walk
invariant-loop-walk l =
    record {
      nested : max l.most (slots (levels_in l.walk)) ≡ 1 + nest (tree_of l.value);
      held : length (levels_in l.walk) ≤ l.most;
      whole : LeftWhole (levels_in l.walk) → IsWhole (tree_of l.value);
    }

abbrev pub decreases-loop-walk : goal.decreases-loop-walk
decreases-loop-walk l = length (trees_left (levels_in l.walk))
