use Rattle.std.proofs.Common.{◌≡◌, ◌≤◌, ◌+◌, length, vec_capacity}
use Rattle.ipld_tree.specs.Levels.{slots, trees_left, held, rest}
use Rattle.ipld_tree.specs.Cursors.{levels_of}
use Rattle.ipld_tree.proofs.iter.IpldIterIterator.next.Given as goal

abbrev pub invariant-loop-value : goal.invariant-loop-value
invariant-loop-value l =
    let levels = levels_of l.self-inside.stack.items in
    record {
      left : trees_left levels ≡ rest l.fn.self;
      counted : l.self-inside.iterations + length levels ≡ l.fn.self.iterations + held l.fn.self;
      nested : slots levels ≤ slots l.fn.self.levels;
      fits : slots levels ≤ vec_capacity l.self-inside.stack;
      capacity : vec_capacity l.self-inside.stack ≡ l.fn.self.capacity;
    }

abbrev pub decreases-loop-value : goal.decreases-loop-value
decreases-loop-value l = length (levels_of l.self-inside.stack.items)
