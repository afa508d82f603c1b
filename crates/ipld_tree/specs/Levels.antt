-- The state of a walk of a tree of the IPLD data model: the values that its cursors have left, the
-- outermost first, the number of iterations so far, and the capacity for cursors.
use Rattle.std.specs.Prelude.{◌≡◌, ◌≤◌, ℕ, suc, ◌+◌, max, List, [], ◌∷◌, ◌++◌, length, Option, MatchOption}
use Rattle.std.specs.Borrow.{Bor}
use Rattle.ipld_tree.specs.Tree.{Tree}
use Rattle.ipld_tree.specs.TreeOf.{tree_of}
use Rattle.ipld_tree.specs.Walk.{preorder, nest, containers}
use Rattle.ipld_tree.specs.declared.ipld.Ipld.{Ipld}

-- The state of a walk: the values that its cursors have left, the outermost first, the number of
-- iterations so far, and the capacity for cursors.
pub record Walk : Type 0 where
  pub levels : List (List Ipld)
  pub iterations : ℕ
  -- The number of cursors that it has memory for.
  pub capacity : ℕ

-- the walks of the values, one after another
abbrev pub walks : List Ipld → List Tree
walks [] = []
walks (x ∷ xs) = preorder (tree_of x) ++ walks xs

-- the trees that the levels still yield. The innermost level is walked first.
abbrev pub trees_left : List (List Ipld) → List Tree
trees_left [] = []
trees_left (xs ∷ levels) = trees_left levels ++ walks xs

-- The trees that the walk still yields.
abbrev pub rest : Walk → List Tree
rest w = trees_left w.levels

abbrev pub deepest : List Ipld → ℕ
deepest [] = 0
deepest (x ∷ xs) = max (nest (tree_of x)) (deepest xs)

-- The largest number of cursors that a walk with these levels holds from here on.
abbrev pub slots : List (List Ipld) → ℕ
slots [] = 0
slots (xs ∷ levels) = suc (max (deepest xs) (slots levels))

-- The number of cursors that the walk holds.
abbrev pub held : Walk → ℕ
held w = length w.levels

-- the number of iterations that are left: one yields a tree, one drops a cursor that has ended, and
-- the last finds that no cursor is left
abbrev pub iterations_left : Walk → ℕ
iterations_left w = length (rest w) + containers (rest w) + held w + 1

-- True if a call of `next` leads from `before` to `after`. Every iteration is counted, the walk has
-- no levels after its end, the slots that are needed don't grow, and the capacity stays the same.
pub record NextCall (before : Walk) (result : Option (Bor Ipld)) (after : Walk) : Type 0 where
  pub iterations : MatchOption result (after.iterations ≡ before.iterations + iterations_left before) (λ _. after.iterations + iterations_left after ≡ before.iterations + iterations_left before)
  pub ended : MatchOption result (after.levels ≡ []) (λ _. Unit {0})
  pub slots : slots after.levels ≤ slots before.levels
  pub capacity : after.capacity ≡ before.capacity
