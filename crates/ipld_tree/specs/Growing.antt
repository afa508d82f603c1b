-- The state of a walk whose stack grows: the values that its cursors have left, the outermost
-- first.
use Rattle.std.specs.Prelude.{◌≡◌, ◌≤◌, max, List, [], ◌∷◌, ◌++◌, length, Option, Some, None}
use Rattle.std.specs.Borrow.{Bor}
use Rattle.ipld_tree.specs.TreeOf.{tree_of}
use Rattle.ipld_tree.specs.Levels.{trees_left, slots}
use Rattle.ipld_tree.specs.Cursors.{left_of, levels_of, AllWhole}
use Rattle.ipld_tree.specs.declared.ipld.Ipld.{Ipld}
use Rattle.ipld_tree.specs.declared.growing.GrowingWalk.{GrowingWalk}

abbrev pub levels_in : GrowingWalk → List (List Ipld)
levels_in w = levels_of w.outer.items ++ left_of w.innermost ∷ []

-- True if every value that is left is whole.
abbrev pub LeftWhole : List (List Ipld) → Type 0
LeftWhole [] = Unit {0}
LeftWhole (xs ∷ levels) = AllWhole xs × LeftWhole levels

-- True if `before` needs the slots that `after` needs, or one for each of its own levels if that is
-- more, and `before` is whole if `after` is.
pub record Keeps (before after : List (List Ipld)) : Type 0 where
  pub slots : slots before ≡ max (length before) (slots after)
  pub whole : LeftWhole after → LeftWhole before

-- True if the walk yields its next tree or has ended, and `Keeps` is true.
abbrev pub NextOf : List (List Ipld) → Option (Bor Ipld) → List (List Ipld) → Type 0
NextOf before None after = (trees_left before ≡ []) × Keeps before []
NextOf before (Some x) after = (trees_left before ≡ tree_of x.now ∷ trees_left after) × Keeps before after

-- True if a walk that began at the levels `before` is now at `now`, and only levels that have ended
-- were dropped.
pub record Reached (before now : List (List Ipld)) : Type 0 where
  pub left : trees_left before ≡ trees_left now
  pub shorter : length now ≤ length before
  pub nested : slots before ≡ max (length before) (slots now)
  pub whole : LeftWhole now → LeftWhole before
