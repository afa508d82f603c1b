-- The trees that limits allow.
use Rattle.std.specs.Prelude.{◌≤◌, length}
use Rattle.ipld_tree.specs.Tree.{Tree}
use Rattle.ipld_tree.specs.Walk.{preorder, nest}
use Rattle.ipld_tree.specs.declared.limits.Limits.{Limits}

-- True if the tree nests at most `limits.levels` deep and has at most `limits.values` values.
pub record Within (limits : Limits) (t : Tree) : Type 0 where
  pub levels : nest t ≤ limits.levels
  pub values : length (preorder t) ≤ limits.values
