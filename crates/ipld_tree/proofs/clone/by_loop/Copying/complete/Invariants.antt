use Rattle.std.proofs.Common.{◌≡◌, ◌+◌}
use Rattle.ipld_tree.specs.Copying.{around_all, whole, work, work_around}
use Rattle.ipld_tree.proofs.clone.by_loop.Copying.complete.Given as goal

abbrev pub invariant-loop-value : goal.invariant-loop-value
invariant-loop-value l = around_all l.self.outer.items (whole l.self.innermost) ≡ around_all l.fn.self.outer.items (whole l.fn.self.innermost)

abbrev pub decreases-loop-value : goal.decreases-loop-value
decreases-loop-value l = work l.self.innermost + work_around l.self.outer.items
