-- The cursors of a walk, by the values that they have left.
use Rattle.std.specs.Prelude.{◌≡◌, ◌≤◌, ◌+◌, List, [], ◌∷◌, ◌++◌, map, length, Option, Some, None}
use Rattle.std.specs.Slice.Iter.{iter_rest}
use Rattle.ipld_tree.specs.Tree.{Tree}
use Rattle.ipld_tree.specs.TreeOf.{tree_of}
use Rattle.ipld_tree.specs.Walk.{preorder, nest, container}
use Rattle.ipld_tree.specs.IsWhole.{IsWhole}
use Rattle.ipld_tree.specs.Levels.{trees_left, slots}
use Rattle.ipld_tree.specs.declared.ipld.Ipld.{Ipld}
use Rattle.ipld_tree.specs.declared.iter.Cursor.{Cursor}
use Rattle.ipld_tree.specs.declared.iter.Cursor.TheVariants.{Itself, Items, Members}
use Rattle.ipld_tree.specs.declared.iter.Iteration.{Iteration}
use Rattle.ipld_tree.specs.declared.iter.Iteration.TheVariants.{Yielded, Dropped, Ended}

abbrev pub left_of : Cursor → List Ipld
left_of (Itself None) = []
left_of (Itself (Some x)) = x.now ∷ []
left_of (Items xs) = iter_rest xs
left_of (Members xs) = xs

-- the values that every cursor has left
abbrev pub levels_of : List Cursor → List (List Ipld)
levels_of cursors = map left_of cursors

abbrev pub cursors_in : Option Cursor → List Cursor
cursors_in None = []
cursors_in (Some c) = c ∷ []

abbrev pub values_in : Option Cursor → List Ipld
values_in None = []
values_in (Some c) = left_of c

-- True if every value is whole.
abbrev pub AllWhole : List Ipld → Type 0
AllWhole [] = Unit {0}
AllWhole (x ∷ xs) = IsWhole (tree_of x) × AllWhole xs

-- True if the levels, at most one, have the values inside the tree.
pub record Opens (t : Tree) (levels : List (List Ipld)) : Type 0 where
  pub walked : preorder t ≡ t ∷ trees_left levels
  pub nested : nest t ≡ slots levels
  pub counted : container t ≡ length levels

-- True if `after` is `before` with the level of the values inside the tree appended, if it has one.
abbrev pub Holds : List (List Ipld) → Tree → List (List Ipld) → Type 0
Holds before t after = (inner : List (List Ipld)) × Opens t inner × (after ≡ before ++ inner)

-- True if the innermost level yields its first value, an empty innermost level is dropped, or the
-- walk has ended.
abbrev pub TakesNext : List (List Ipld) → Iteration → List (List Ipld) → Type 0
TakesNext before (Yielded x) after = (front : List (List Ipld)) × (xs : List Ipld) × (before ≡ front ++ (x.now ∷ xs) ∷ []) × (after ≡ front ++ xs ∷ [])
TakesNext before Dropped after = before ≡ after ++ [] ∷ []
TakesNext before Ended after = (before ≡ []) × (after ≡ [])

-- True if one iteration of the walk leads from `before` to `after`. It yields the next tree, drops
-- a level, or finds that no level is left. The slots that are needed don't grow.
abbrev pub IterationOf : List (List Ipld) → Iteration → List (List Ipld) → Type 0
IterationOf before (Yielded x) after = (trees_left before ≡ tree_of x.now ∷ trees_left after) × (length after ≡ length before + container (tree_of x.now)) × (slots after ≤ slots before)
IterationOf before Dropped after = (trees_left before ≡ trees_left after) × (length before ≡ length after + 1) × (slots after ≤ slots before)
IterationOf before Ended after = (before ≡ []) × (after ≡ [])
