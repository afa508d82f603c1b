-- The tokens of a tree are an item that has it, and its links.
use Rattle.std.proofs.Common.{◌≡◌, ℕ, false, List, [], ◌∷◌, ◌++◌, Some, option_map, Less, nat_cmp, refl, sym, ap, ◌∙◌, ◌≤◌, bytes_eq, arith}
use Rattle.std.specs.Ordering.{is_eq}
use Rattle.std.specs.Cmp.Lexicographic.{slice_cmp}
use Rattle.std.specs.List.{AllByRecursion}
use Rattle.std.specs.List.Sorted.{IsStrictlySortedBy}
use Rattle.std.proofs.lemmas.Map.Text.{is_eq-slice_cmp}
use Rattle.ipld_cid.specs.Cid.{Link, IsValid}
use Rattle.ipld_cid.specs.Bytes.{IsCid, bytes_of}
use Rattle.ipld_tree.specs.Tree.{Tree, Items, no_items, item, Members, no_members, member}
use Rattle.ipld_tree.specs.Tree as tree
use Rattle.ipld_tree.specs.Put.{put}
use Rattle.ipld_tree.specs.Walk.{preorder, items_preorder, members_preorder, links_among, links_of}
use Rattle.ipld_tree.specs.IsTree.{IsTree, AreTrees, AreEntries}
use Rattle.ipld_tree.specs.IsWhole.{IsWhole, AreWhole, AreWholeEntries, Ascends, keys_in}
use Rattle.ipld_tokens.specs.Token.{atom, seq, seq_end, map, map_end, none, boolean, integer, text}
use Rattle.ipld_tokens.specs.Item.{Item, atom_item, bytes_item, list_item, map_item, link_item, Parts, no_parts, part, Pairs, no_pairs, pair, tokens_of, parts_tokens, pairs_tokens, links_in, parts_links, pairs_links}
use Rattle.ipld_tokens.specs.ItemTree.{has_key, put_new, item_before, tree_of_item, items_of_parts, members_of_pairs}
use Rattle.ipld_tokens.specs.TreeTokens.{tokens_of_tree, items_tokens, members_tokens}
use Rattle.ipld_tokens.proofs.ItemLinks.{among-append}

abbrev pub Above : List ℕ → Members → Type 0
Above k ms = AllByRecursion (λ y. slice_cmp nat_cmp k y ≡ Less) (keys_in ms)

not_same : (k q : List ℕ) → slice_cmp nat_cmp k q ≡ Less → bytes_eq k q ≡ false
not_same k q e = sym (is_eq-slice_cmp k q) ∙ ap is_eq e

no_key : (k : List ℕ) (ms : Members) → Above k ms → has_key k ms ≡ false
no_key k no_members h = refl
no_key k (member q t ms) h = rw (not_same k q h.0) (no_key k ms h.1)

pub goes_first : (k : List ℕ) (t : Tree) (ms : Members) → Above k ms → put k t ms ≡ member k t ms
goes_first k t no_members h = refl
goes_first k t (member q u ms) h = rw h.0

put_first : (k : List ℕ) (t : Tree) (ms : Members) → Above k ms → put_new (Some k) (Some t) (Some ms) ≡ Some (member k t ms)
put_first k t ms h = rw (no_key k ms h, goes_first k t ms h)

ascends_first : (k : List ℕ) (t : Tree) (ms : Members) → Ascends (member k t ms) → Above k ms × Ascends ms
unfolding IsStrictlySortedBy
ascends_first k t ms h = (h.0, h.1)

-- the item that the tokens of a tree are
module _ (S : ℕ) (each : (cid : Link) → IsValid 64 cid → IsCid S (bytes_of cid) cid) where
  abbrev mutual
    pub item_of : (t : Tree) → IsTree t → Item S
    item_of tree.null h = atom_item none
    item_of (tree.boolean b) h = atom_item (boolean b)
    item_of (tree.integer n) h = atom_item (integer n)
    item_of (tree.text s) h = atom_item (text s)
    item_of (tree.bytes b) h = bytes_item b
    item_of (tree.list ts) h = list_item (parts_of ts h)
    item_of (tree.entries ms) h = map_item (pairs_of ms h)
    item_of (tree.link cid) h = link_item (bytes_of cid) cid (each cid h)

    pub parts_of : (ts : Items) → AreTrees ts → Parts S
    parts_of no_items h = no_parts
    parts_of (item t ts) h = part (item_of t h.0) (parts_of ts h.1)

    pub pairs_of : (ms : Members) → AreEntries ms → Pairs S
    pairs_of no_members h = no_pairs
    pairs_of (member k t ms) h = pair (atom_item (text k)) (item_of t h.1) (pairs_of ms h.2)

  mutual
    pub item_tokens : (t : Tree) (h : IsTree t) → tokens_of (item_of t h) ≡ tokens_of_tree t
    item_tokens tree.null h = refl
    item_tokens (tree.boolean b) h = refl
    item_tokens (tree.integer n) h = refl
    item_tokens (tree.text s) h = refl
    item_tokens (tree.bytes b) h = refl
    item_tokens (tree.list ts) h = ap (λ xs. seq ∷ (xs ++ seq_end ∷ [])) (parts_toks ts h)
    item_tokens (tree.entries ms) h = ap (λ xs. map ∷ (xs ++ map_end ∷ [])) (pairs_toks ms h)
    item_tokens (tree.link cid) h = refl

    parts_toks : (ts : Items) (h : AreTrees ts) → parts_tokens (parts_of ts h) ≡ items_tokens ts
    parts_toks no_items h = refl
    parts_toks (item t ts) h =
        ap (λ xs. xs ++ parts_tokens (parts_of ts h.1)) (item_tokens t h.0) ∙ ap (λ xs. tokens_of_tree t ++ xs) (parts_toks ts h.1)

    pairs_toks : (ms : Members) (h : AreEntries ms) → pairs_tokens (pairs_of ms h) ≡ members_tokens ms
    pairs_toks no_members h = refl
    pairs_toks (member k t ms) h =
        ap (λ xs. atom (text k) ∷ (xs ++ pairs_tokens (pairs_of ms h.2))) (item_tokens t h.1)
        ∙ ap (λ xs. atom (text k) ∷ (tokens_of_tree t ++ xs)) (pairs_toks ms h.2)

  mutual
    pub item_links : (t : Tree) (h : IsTree t) → links_in (item_of t h) ≡ links_of t
    item_links tree.null h = refl
    item_links (tree.boolean b) h = refl
    item_links (tree.integer n) h = refl
    item_links (tree.text s) h = refl
    item_links (tree.bytes b) h = refl
    item_links (tree.list ts) h = parts_same ts h
    item_links (tree.entries ms) h = pairs_same ms h
    item_links (tree.link cid) h = refl

    parts_same : (ts : Items) (h : AreTrees ts) → parts_links (parts_of ts h) ≡ links_among (items_preorder ts)
    parts_same no_items h = refl
    parts_same (item t ts) h =
        ap (λ xs. xs ++ parts_links (parts_of ts h.1)) (item_links t h.0) ∙ ap (λ xs. links_of t ++ xs) (parts_same ts h.1)
        ∙ sym (among-append (preorder t) (items_preorder ts))

    pairs_same : (ms : Members) (h : AreEntries ms) → pairs_links (pairs_of ms h) ≡ links_among (members_preorder ms)
    pairs_same no_members h = refl
    pairs_same (member k t ms) h =
        ap (λ xs. xs ++ pairs_links (pairs_of ms h.2)) (item_links t h.1) ∙ ap (λ xs. links_of t ++ xs) (pairs_same ms h.2)
        ∙ sym (among-append (preorder t) (members_preorder ms))

module _ (each : (cid : Link) → IsValid 64 cid → IsCid 64 (bytes_of cid) cid) where
  mutual
    item_tree : (t : Tree) (h : IsTree t) → IsWhole t → tree_of_item (item_of 64 each t h) ≡ Some t
    item_tree tree.null h w = refl
    item_tree (tree.boolean b) h w = refl
    item_tree (tree.integer n) h w = refl
    item_tree (tree.text s) h w = refl
    item_tree (tree.bytes b) h w = refl
    item_tree (tree.list ts) h w = ap (option_map tree.list) (parts_tree ts h w)
    item_tree (tree.entries ms) h w = ap (option_map tree.entries) (pairs_tree ms h w.0 w.1)
    item_tree (tree.link cid) h w = refl

    parts_tree : (ts : Items) (h : AreTrees ts) → AreWhole ts → items_of_parts (parts_of 64 each ts h) ≡ Some ts
    parts_tree no_items h w = refl
    parts_tree (item t ts) h w =
        ap (λ o. item_before o (items_of_parts (parts_of 64 each ts h.1))) (item_tree t h.0 w.0) ∙ ap (item_before (Some t)) (parts_tree ts h.1 w.1)

    pairs_tree : (ms : Members) (h : AreEntries ms) → Ascends ms → AreWholeEntries ms → members_of_pairs (pairs_of 64 each ms h) ≡ Some ms
    pairs_tree no_members h a w = refl
    pairs_tree (member k t ms) h a w =
        let sorted = ascends_first k t ms a in
        ap (λ o. put_new (Some k) o (members_of_pairs (pairs_of 64 each ms h.2))) (item_tree t h.1 w.0)
        ∙ ap (put_new (Some k) (Some t)) (pairs_tree ms h.2 sorted.1 w.1) ∙ put_first k t ms sorted.0

  -- the tokens of a tree are an item that has the tree and its links
  pub is_item : (t : Tree) → IsTree t → IsWhole t → (i : Item 64) × (tokens_of i ≡ tokens_of_tree t) × (tree_of_item i ≡ Some t) × (links_in i ≡ links_of t)
  is_item t h w = (item_of 64 each t h, item_tokens 64 each t h, item_tree t h w, item_links 64 each t h)

-- a CID fits where there is more capacity
pub fits_more : (S : ℕ) (cid : Link) → 64 ≤ S → IsValid 64 cid → IsValid S cid
fits_more S cid more h = (h.0, (h.1.0, omega (arith, h.1.1, more), h.1.2), h.2)
