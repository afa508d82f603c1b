use Rattle.std.proofs.Common.{ℕ, List, length, reverse, option_map}
use Rattle.ipld_show.specs.DataItem.{DataItem, BeginsWithItem}
use Rattle.ipld_show.proofs.Trees.{Going}
use Rattle.ipld_show.proofs.tree_text.write_tree.Given as goal

abbrev pub invariant-loop-head : goal.invariant-loop-head
invariant-loop-head g l =
    (d : DataItem) (behind : List ℕ) → BeginsWithItem d l.value behind
    → Going d l.rest (option_map (λ k. k.now) l.key) (reverse l.levels.items) (g.W.Write.contents l.initial.writer) (g.W.Write.contents l.writer)

abbrev pub decreases-loop-head : goal.decreases-loop-head
decreases-loop-head g l = length l.rest
