-- Comparison of trees of the IPLD data model, one value at a time: the kind, the content, and the
-- number of items or the keys, without the values inside.
use Rattle.std.specs.Prelude.{◌&&◌, Bool, true, false, List, [], ◌∷◌}
use Rattle.std.specs.Bool.{beq}
use Rattle.std.specs.Ordering.{int_eq}
use Rattle.std.specs.Str.{bytes_eq}
use Rattle.ipld_cid.specs.Order.{link_eq}
use Rattle.ipld_tree.specs.Tree.{Tree, null, boolean, integer, text, bytes, list, entries, link, Items, no_items, item, Members, no_members, member}

-- whether two lists have the same number of items
abbrev pub count_eq : Items → Items → Bool
count_eq no_items no_items = true
count_eq (item t ts) (item u us) = count_eq ts us
count_eq _ _ = false

-- whether two maps have the same keys, in the same order
abbrev pub keys_eq : Members → Members → Bool
keys_eq no_members no_members = true
keys_eq (member j t ms) (member k u ns) = bytes_eq j k && keys_eq ms ns
keys_eq _ _ = false

abbrev pub head_eq : Tree → Tree → Bool
head_eq null null = true
head_eq (boolean a) (boolean b) = beq a b
head_eq (integer m) (integer n) = int_eq m n
head_eq (text s) (text t) = bytes_eq s t
head_eq (bytes a) (bytes b) = bytes_eq a b
head_eq (list ts) (list us) = count_eq ts us
head_eq (entries ms) (entries ns) = keys_eq ms ns
head_eq (link k) (link l) = link_eq k l
head_eq _ _ = false

abbrev pub heads_eq : List Tree → List Tree → Bool
heads_eq [] [] = true
heads_eq (t ∷ ts) (u ∷ us) = head_eq t u && heads_eq ts us
heads_eq _ _ = false
