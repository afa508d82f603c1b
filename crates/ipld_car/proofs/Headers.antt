-- The tree of a header.
use Rattle.std.proofs.Common.{◌≡◌, pos, true, false, List, [], ◌∷◌, ◌++◌, map, refl, sym, ap, ◌∙◌, append_assoc, append-nil}
use Rattle.ipld_cid.specs.Cid.{Link}
use Rattle.ipld_cid.specs.LinkOf.{link_of}
use Rattle.ipld_cid.specs.declared.cid.CidGeneric.{CidGeneric}
use Rattle.ipld_tree.specs.Appended.{Appends}
use Rattle.ipld_tree.specs.Equal.{tree_eq}
use Rattle.ipld_tree.specs.Lemmas.EqualLaws.{tree_decides}
use Rattle.ipld_tree.specs.Tree.{Tree, integer, link}
use Rattle.ipld_tree.specs.TreeOf.{as_items}
use Rattle.ipld_tree.specs.Walk.{own_link, links_among, links_of, items_preorder}
use Rattle.ipld_car.specs.Header.{links, header_tree}

links_among-append : (ts us : List Tree) → links_among (ts ++ us) ≡ links_among ts ++ links_among us
links_among-append [] us = refl
links_among-append (t ∷ ts) us = ap (λ ls. own_link t ++ ls) (links_among-append ts us) ∙ sym (append_assoc (own_link t) (links_among ts) (links_among us))

links_gathered : (ls : List Link) → links_among (items_preorder (as_items (map link ls))) ≡ ls
links_gathered [] = refl
links_gathered (l ∷ ls) = ap (λ xs. l ∷ xs) (links_gathered ls)

-- the links of a header are its roots
pub links_of_header : (ls : List Link) → links_of (header_tree ls) ≡ ls
links_of_header ls =
    links_among-append (items_preorder (links ls)) (integer (pos 1) ∷ []) ∙ append-nil (links_among (items_preorder (links ls))) ∙ links_gathered ls

-- what was gathered from nothing
all_links : (after : List (CidGeneric 64)) (ls : List Link) → Appends [] after ls true → map link_of after ≡ ls
all_links after ls a = sym (a.beginning ∙ ap (λ xs. map link_of a.added ++ xs) (a.whole refl) ∙ append-nil (map link_of a.added) ∙ sym (ap (map link_of) a.appended))

-- a tree that is the header of its links
pub header_found : (value header : Tree) (roots : List Link) → header ≡ header_tree roots → tree_eq value header ≡ true → value ≡ header_tree roots
header_found value header roots h e = (tree_decides value header).0 e ∙ h

-- a tree that isn't the header of its links is none
pub header_none : (value header : Tree) (after : List (CidGeneric 64)) → Appends [] after (links_of value) true → header ≡ header_tree (map link_of after)
    → tree_eq value header ≡ false → (roots : List Link) → value ≡ header_tree roots → ⊥
header_none value header after a h e roots is =
    let gathered : map link_of after ≡ roots = all_links after (links_of value) a ∙ ap links_of is ∙ links_of_header roots in
    let same : value ≡ header = is ∙ ap header_tree (sym gathered) ∙ sym h in
    let yes = (tree_decides value header).1 same in
    cc
