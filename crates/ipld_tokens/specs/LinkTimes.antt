-- This file compares the links of an item with those of a tree.
use Rattle.ipld_tree.specs.Tree.{Tree}
use Rattle.ipld_tree.specs.LinkTimes.{AsOften}
use Rattle.ipld_tree.specs.Walk.{links_of}
use Rattle.ipld_tokens.specs.Item.{Item, links_in}

-- True if every link appears equally often in the item, outside keys, and in the tree.
abbrev pub SameLinks : Item 64 → Tree → Type 0
SameLinks i t = AsOften (links_in i) (links_of t)
