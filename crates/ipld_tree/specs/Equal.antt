-- Equality of trees: two trees are equal if they are of one kind of the IPLD data model, with equal
-- contents.
use Rattle.std.specs.Prelude.{◌&&◌, Bool, true, false}
use Rattle.std.specs.Bool.{beq}
use Rattle.std.specs.Ordering.{int_eq}
use Rattle.std.specs.Str.{bytes_eq}
use Rattle.ipld_cid.specs.Order.{link_eq}
use Rattle.ipld_tree.specs.Tree.{Tree, null, boolean, integer, text, bytes, list, entries, link, Items, no_items, item, Members, no_members, member}

abbrev mutual
  -- Returns whether two trees are equal.
  pub tree_eq : Tree → Tree → Bool
  tree_eq null null = true
  tree_eq (boolean a) (boolean b) = beq a b
  tree_eq (integer m) (integer n) = int_eq m n
  tree_eq (text s) (text t) = bytes_eq s t
  tree_eq (bytes a) (bytes b) = bytes_eq a b
  tree_eq (list ts) (list us) = items_eq ts us
  tree_eq (entries ms) (entries ns) = members_eq ms ns
  tree_eq (link k) (link l) = link_eq k l
  tree_eq _ _ = false

  pub items_eq : Items → Items → Bool
  items_eq no_items no_items = true
  items_eq (item t ts) (item u us) = tree_eq t u && items_eq ts us
  items_eq _ _ = false

  pub members_eq : Members → Members → Bool
  members_eq no_members no_members = true
  members_eq (member j t ms) (member k u ns) = bytes_eq j k && (tree_eq t u && members_eq ms ns)
  members_eq _ _ = false
