-- The model of an `Ipld`: a tree of the IPLD data model.
use Rattle.std.specs.Prelude.{List, [], ◌∷◌, map, String, string_bytes}
use Rattle.std.specs.declared.alloc.Global.{Global}
use Rattle.ipld_cid.specs.LinkOf.{link_of}
use Rattle.ipld_tree.specs.Tree.{Tree, null, boolean, integer, text, bytes, list, entries, link, Items, no_items, item, Members, no_members, member}
use Rattle.ipld_tree.specs.declared.ipld.Ipld.{Ipld, fold-Ipld}
use Rattle.ipld_tree.specs.declared.ipld.Ipld.TheOpen.{Ipld-F}

-- a list of trees as the items of a list
abbrev pub as_items : List Tree → Items
as_items [] = no_items
as_items (t ∷ ts) = item t (as_items ts)

abbrev pub as_members : List (String Global × Tree) → Members
as_members [] = no_members
as_members (m ∷ ms) = member (string_bytes m.0) m.1 (as_members ms)

-- the tree of a value, from the trees of the values directly inside it
abbrev pub tree_step : Ipld-F Tree → Tree
tree_step Ipld-F.Null = null
tree_step (Ipld-F.Bool b) = boolean b
tree_step (Ipld-F.Integer n) = integer n
tree_step (Ipld-F.String s) = text (string_bytes s)
tree_step (Ipld-F.Bytes v) = bytes v.items
tree_step (Ipld-F.List v) = list (as_items v.items)
tree_step (Ipld-F.Map m) = entries (as_members m.entries)
tree_step (Ipld-F.Link c) = link (link_of c)

-- The tree of a value (The IPLD Data Model, kinds; floats are left out).
abbrev pub tree_of : Ipld → Tree
tree_of = fold-Ipld Tree tree_step

-- the trees of the values of a list
abbrev pub items_of : List Ipld → Items
items_of vs = as_items (map tree_of vs)

-- the trees of the entries of a map
abbrev pub members_of : List (String Global × Ipld) → Members
members_of es = as_members (map (λ e. (e.0, tree_of e.1)) es)
