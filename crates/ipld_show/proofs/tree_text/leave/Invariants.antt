use Rattle.std.proofs.Common.{ℕ, List, reverse, vec_len}
use Rattle.ipld_show.specs.TreeText.{Line}
use Rattle.ipld_show.specs.TreeLevels.{Open, Ended}
use Rattle.ipld_show.proofs.tree_text.leave.Given as goal

abbrev pub invariant-loop-level : goal.invariant-loop-level
invariant-loop-level g l =
    (bytes : List ℕ) (lines : List Line) → Open (reverse l.initial.levels.items) bytes lines
    → (todo : List Line) × Open (reverse l.levels.items) bytes todo × Ended lines todo (g.W.Write.contents l.initial.writer) (g.W.Write.contents l.writer)

abbrev pub decreases-loop-level : goal.decreases-loop-level
decreases-loop-level g l = vec_len l.levels
