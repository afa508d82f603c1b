-- The number of values in a tree of the IPLD data model: the value itself, and all values inside
-- it.
use Rattle.std.specs.Prelude.{ℕ, List, length}
use Rattle.ipld_tree.specs.TreeOf.{tree_of}
use Rattle.ipld_tree.specs.Walk.{preorder}
use Rattle.ipld_tree.specs.Levels.{walks}
use Rattle.ipld_tree.specs.declared.ipld.Ipld.{Ipld}

-- the number of values in one tree
abbrev pub size : Ipld → ℕ
size x = length (preorder (tree_of x))

-- the number of values in several trees
abbrev pub total : List Ipld → ℕ
total xs = length (walks xs)
