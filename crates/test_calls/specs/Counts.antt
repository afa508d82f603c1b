-- The counts of a walk of a tree of the IPLD data model.
use Rattle.std.specs.Prelude.{◌≡◌, ◌+◌, ℕ, zero, suc, length}
use Rattle.ipld_tree.specs.Tree.{Tree, list, no_items, item}
use Rattle.ipld_tree.specs.Walk.{preorder, nest, containers}

-- True if the tree has `values` values, `inner` of them lists and maps, and its walk has slots for
-- `slots` cursors and ends after `iterations` iterations.
abbrev pub Counts : Tree → ℕ → ℕ → ℕ → ℕ → Type 0
Counts t values inner slots iterations =
    (length (preorder t) ≡ values) × (containers (preorder t) ≡ inner) × (1 + nest t ≡ slots) × (length (preorder t) + containers (preorder t) + 2 ≡ iterations)

-- `n` lists, one inside another, around the empty list
abbrev pub around : ℕ → Tree
around zero = list no_items
around (suc n) = list (item (around n) no_items)
