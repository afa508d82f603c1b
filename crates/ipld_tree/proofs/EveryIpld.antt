-- Every `Ipld` is a tree of the IPLD data model.
use Rattle.std.specs.Prelude.{List, [], ◌∷◌, map, String}
use Rattle.std.specs.declared.alloc.Global.{Global}
use Rattle.std.proofs.Common.{subst}
use Rattle.std.proofs.lemmas.Str.{IsUtf8-string_bytes}
use Rattle.ipld_cid.specs.LinkOf.{valid_link}
use Rattle.ipld_tree.specs.Tree.{Tree}
use Rattle.ipld_tree.specs.TreeOf.{tree_of, tree_step, items_of, members_of}
use Rattle.ipld_tree.specs.IsTree.{IsTree, AreTrees, AreEntries}
use Rattle.ipld_tree.specs.declared.ipld.Ipld.{Ipld}
use Rattle.ipld_tree.specs.declared.ipld.Ipld.TheOpen.{Ipld-F}
use Rattle.ipld_tree.specs.declared.ipld.Ipld.TheFolds.{fold-roll-Ipld, ind-Ipld, map-Ipld}

abbrev Known : Type 0
Known = (x : Ipld) × IsTree (tree_of x)

all_items : (xs : List Known) → AreTrees (items_of (map (λ e. e.0) xs))
all_items [] = tt
all_items (e ∷ xs) = (e.1, all_items xs)

all_entries : (es : List (String Global × Known)) → AreEntries (members_of (map (λ e. (e.0, e.1.0)) es))
all_entries [] = tt
all_entries (e ∷ es) = (IsUtf8-string_bytes e.0, e.1.1, all_entries es)

-- one level, where each value inside is known to be a tree
one_level : (y : Ipld-F Known) → IsTree (tree_step (map-Ipld Ipld Tree tree_of (map-Ipld Known Ipld (λ e. e.0) y)))
one_level Ipld-F.Null = tt
one_level (Ipld-F.Bool b) = tt
one_level (Ipld-F.Integer n) = tt
one_level (Ipld-F.String s) = IsUtf8-string_bytes s
one_level (Ipld-F.Bytes v) = tt
one_level (Ipld-F.List v) = all_items v.items
one_level (Ipld-F.Map m) = all_entries m.entries
one_level (Ipld-F.Link c) = valid_link c

pub is_tree : (x : Ipld) → IsTree (tree_of x)
is_tree = ind-Ipld (λ x. IsTree (tree_of x)) (λ x y is.
    rw (fold-roll-Ipld Tree tree_step x) (subst (λ z. IsTree (tree_step (map-Ipld Ipld Tree tree_of z))) is (one_level y)))
