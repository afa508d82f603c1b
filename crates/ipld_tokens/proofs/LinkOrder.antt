-- Where keys ascend, the links of an item are those of its tree, in the same order.
use Rattle.std.proofs.Common.{◌≡◌, ℕ, List, ◌∷◌, ◌++◌, Some, Less, nat_cmp, sym, ap, subst, ◌∙◌}
use Rattle.std.specs.Cmp.Lexicographic.{slice_cmp}
use Rattle.std.specs.List.{AllByRecursion}
use Rattle.std.specs.List.Sorted.{IsStrictlySortedBy}
use Rattle.ipld_tree.specs.Tree.{Tree, Items, no_items, item, Members, no_members, member}
use Rattle.ipld_tree.specs.Tree as tree
use Rattle.ipld_tree.specs.Walk.{preorder, items_preorder, members_preorder, links_among, links_of}
use Rattle.ipld_tree.specs.IsWhole.{keys_in}
use Rattle.ipld_tokens.specs.Item.{Item, atom_item, bytes_item, some_item, variant_item, list_item, map_item, link_item, Parts, no_parts, part, Pairs, no_pairs, pair, links_in, parts_links, pairs_links}
use Rattle.ipld_tokens.specs.ItemTree.{key_text, tree_of_item, items_of_parts, members_of_pairs}
use Rattle.ipld_tokens.specs.ItemOrder.{text_before, key_texts, InMapsOfParts, InMapsOfValues, Ascend, KeysAscend}
use Rattle.ipld_tokens.proofs.ItemLinks.{among-append, some_tree, some_items, some_members, none_tree, atom_tree, list_has, map_has, part_has, pair_has}
use Rattle.ipld_tokens.proofs.TreeItems.{goes_first}

abbrev Sorted : List (List ℕ) → Type 0
Sorted = IsStrictlySortedBy (slice_cmp nat_cmp)

abbrev below_all : List ℕ → List (List ℕ) → Type 0
below_all k ks = AllByRecursion (λ y. slice_cmp nat_cmp k y ≡ Less) ks

sorted_first : (k : List ℕ) (ks : List (List ℕ)) → Sorted (k ∷ ks) → below_all k ks × Sorted ks
unfolding IsStrictlySortedBy
sorted_first k ks h = (h.0, h.1)

mutual
  item_order : (i : Item 64) (t : Tree) → tree_of_item i ≡ Some t → KeysAscend i → links_in i ≡ links_of t
  item_order (atom_item a) t e h = sym (atom_tree a t e)
  item_order (bytes_item b) t e h = ap links_of (some_tree (tree.bytes b) t e)
  item_order (some_item i) t e h = item_order i t e h
  item_order (variant_item name i) t e h = absurd (none_tree t e)
  item_order (list_item is) t e h =
      let l = list_has (items_of_parts is) t e in
      parts_order is l.0 l.1 h ∙ ap links_of l.2
  item_order (map_item ps) t e h =
      let m = map_has (members_of_pairs ps) t e in
      (pairs_order ps m.0 m.1 h.0 h.1).1 ∙ ap links_of m.2
  item_order (link_item b l is) t e h = ap links_of (some_tree (tree.link l) t e)

  parts_order : (is : Parts 64) (ts : Items) → items_of_parts is ≡ Some ts → InMapsOfParts Ascend is → parts_links is ≡ links_among (items_preorder ts)
  parts_order no_parts ts e h = ap (λ us. links_among (items_preorder us)) (some_items no_items ts e)
  parts_order (part i is) ts e h =
      let p = part_has (tree_of_item i) (items_of_parts is) ts e in
      ap (λ ls. ls ++ parts_links is) (item_order i p.0 p.2 h.0)
      ∙ ap (λ ls. links_of p.0 ++ ls) (parts_order is p.1 p.3 h.1)
      ∙ sym (among-append (preorder p.0) (items_preorder p.1))
      ∙ ap (λ us. links_among (items_preorder us)) p.4

  -- the keys too are in the order of the pairs
  pairs_order : (ps : Pairs 64) (ms : Members) → members_of_pairs ps ≡ Some ms → Sorted (key_texts ps) → InMapsOfValues Ascend ps
      → (keys_in ms ≡ key_texts ps) × (pairs_links ps ≡ links_among (members_preorder ms))
  pairs_order no_pairs ms e s h =
      let none = some_members no_members ms e in
      (sym (ap keys_in none), ap (λ us. links_among (members_preorder us)) none)
  pairs_order (pair k v ps) ms e s h =
      let p = pair_has (key_text k) (tree_of_item v) (members_of_pairs ps) ms e in
      let sorted = sorted_first p.key (key_texts ps) (subst (λ o. Sorted (text_before o (key_texts ps))) p.is_text s) in
      let rest = pairs_order ps p.others p.has_others sorted.1 h.1 in
      let first = sym (goes_first p.key p.value p.others (subst (below_all p.key) (sym rest.0) sorted.0)) ∙ p.is in (
        sym (ap keys_in first) ∙ ap (λ ks. p.key ∷ ks) rest.0 ∙ ap (λ o. text_before o (key_texts ps)) (sym p.is_text),
        ap (λ ls. ls ++ pairs_links ps) (item_order v p.value p.has_value h.0)
            ∙ ap (λ ls. links_of p.value ++ ls) rest.1
            ∙ sym (among-append (preorder p.value) (members_preorder p.others))
            ∙ ap (λ us. links_among (members_preorder us)) first,
      )

-- the links of an item whose keys ascend are those of its tree
pub same_order : (i : Item 64) (t : Tree) → tree_of_item i ≡ Some t → KeysAscend i → links_in i ≡ links_of t
same_order i t e h = item_order i t e h
