-- A block encodes one tree, that of its tokens.
use Rattle.std.proofs.Common.{◌≡◌, ℕ, Option, List, [], ◌∷◌, ◌++◌, Some, None, option_map, refl, sym, ap, subst, ◌∙◌, append_assoc}
use Rattle.std.specs.Prelude.{◌↔◌}
use Rattle.std.proofs.lemmas.List.{append-nil}
use Rattle.ipld_cid.specs.Cid.{Link}
use Rattle.ipld_tree.specs.Tree.{Tree, Items, no_items, item, Members, no_members}
use Rattle.ipld_tree.specs.Tree as tree
use Rattle.ipld_tokens.specs.Token.{TokenModel, seq_end, map_end}
use Rattle.ipld_tokens.specs.Item.{Item, atom_item, bytes_item, some_item, variant_item, list_item, map_item, link_item, Parts, no_parts, part, Pairs, no_pairs, pair, tokens_of, parts_tokens, pairs_tokens}
use Rattle.ipld_tokens.specs.ItemTree.{tree_of_item, items_of_parts, members_of_pairs, item_before}
use Rattle.dag_cbor_format.specs.declared.error.CborError.{CborError}
use Rattle.dag_cbor_format.specs.Encoding.{HasEncoding, HaveEncodings, PairsHaveEncodings, EncodesItem, EncodesTree}
use Rattle.dag_cbor_format.specs.Reading.{unless_error, of_block}
use Rattle.dag_cbor_format.specs.Block.{pushed, pushed_if, members_from, as_list, as_map, as_link, held, only_tree, tree_of_block}
use Rattle.dag_cbor_format.proofs.ItemHeaderLaws.{CidLaws, read_link-complete}
use Rattle.dag_cbor_format.proofs.Complete.{key_text_is, list_is, map_is, part_is, over_block}
use Rattle.dag_cbor_format.proofs.Keys.{put_new_is}
use Rattle.dag_cbor_format.proofs.Sound.{encodes_tree}

link_pushed : (cid : Link) (b : List ℕ) (gs : List Items) → as_link (Some cid) (pushed (tree.bytes b) gs) ≡ pushed (tree.link cid) gs
link_pushed cid b [] = refl
link_pushed cid b (g ∷ gs) = refl

some_tree : (x y : Tree) → Some x ≡ Some y → x ≡ y
some_tree x y e = cc e

same_items : (x y : Items) → Some x ≡ Some y → x ≡ y
same_items x y e = cc e

same_members : (x y : Members) → Some x ≡ Some y → x ≡ y
same_members x y e = cc e

-- what is found, is found without an error
pub no_error_where : {A : Type 0} (error : Option CborError) (found : Option A) (x : A) → unless_error error found ≡ Some x → error ≡ None
no_error_where None found x e = refl
no_error_where (Some error) found x e = absurd (cc e)

-- what a map's pairs leave, and its members
record Group (ps : Pairs 64) (ms : Members) (ts : List TokenModel) : Type 0 where
  group : Items
  is : held (pairs_tokens ps ++ (map_end ∷ ts)) ≡ group ∷ held ts
  members : members_from group ≡ ms

module _ (laws : CidLaws) where
  mutual
    held_item : (i : Item 64) (t : Tree) (ts : List TokenModel) → HasEncoding i → tree_of_item i ≡ Some t → held (tokens_of i ++ ts) ≡ pushed t (held ts)
    held_item (atom_item a) t ts h e = ap (λ o. pushed_if o (held ts)) e
    held_item (bytes_item b) t ts h e = ap (λ u. pushed u (held ts)) (some_tree (tree.bytes b) t e)
    held_item (some_item i) t ts h e = absurd h
    held_item (variant_item name i) t ts h e = absurd h
    held_item (list_item is) t ts h e =
        let us = list_is (items_of_parts is) t e in
        ap (λ xs. as_list (held xs)) (append_assoc (parts_tokens is) (seq_end ∷ []) ts) ∙ ap as_list (held_parts is us.0 ts h.1 us.1)
        ∙ ap (λ u. pushed u (held ts)) (some_tree (tree.list us.0) t (sym (ap (option_map tree.list) us.1) ∙ e))
    held_item (map_item ps) t ts h e =
        let ms = map_is (members_of_pairs ps) t e in
        let g = held_pairs ps ms.0 ts h.1 ms.1 in
        ap (λ xs. as_map (held xs)) (append_assoc (pairs_tokens ps) (map_end ∷ []) ts) ∙ ap as_map g.is
        ∙ ap (λ m. pushed (tree.entries m) (held ts)) g.members
        ∙ ap (λ u. pushed u (held ts)) (some_tree (tree.entries ms.0) t (sym (ap (option_map tree.entries) ms.1) ∙ e))
    held_item (link_item b cid is) t ts h e =
        ap (λ o. as_link o (pushed (tree.bytes b) (held ts))) (read_link-complete laws b cid is) ∙ link_pushed cid b (held ts)
        ∙ ap (λ u. pushed u (held ts)) (some_tree (tree.link cid) t e)

    held_parts : (is : Parts 64) (us : Items) (ts : List TokenModel) → HaveEncodings is → items_of_parts is ≡ Some us → held (parts_tokens is ++ (seq_end ∷ ts)) ≡ us ∷ held ts
    held_parts no_parts us ts h e = ap (λ x. x ∷ held ts) (let f : no_items ≡ us = cc e in f)
    held_parts (part i is) us ts h e =
        let p = part_is (tree_of_item i) (items_of_parts is) us e in
        ap held (append_assoc (tokens_of i) (parts_tokens is) (seq_end ∷ ts))
        ∙ held_item i p.0 (parts_tokens is ++ (seq_end ∷ ts)) h.0 p.2
        ∙ ap (pushed p.0) (held_parts is p.1 ts h.1 p.3)
        ∙ ap (λ x. x ∷ held ts) (let f : item p.0 p.1 ≡ us = same_items (item p.0 p.1) us (sym (ap (λ o. item_before o (items_of_parts is)) p.2 ∙ ap (item_before (Some p.0)) p.3) ∙ e) in f)

    held_pairs : (ps : Pairs 64) (ms : Members) (ts : List TokenModel) → PairsHaveEncodings ps → members_of_pairs ps ≡ Some ms → Group ps ms ts
    held_pairs no_pairs ms ts h e = record { group = no_items; is = refl; members = same_members no_members ms e }
    held_pairs (pair key v ps) ms ts h e =
        let k = key_text_is key h.0 in
        let s = k.bytes in
        let p = put_new_is s (tree_of_item v) (members_of_pairs ps) ms (subst (λ (x : Item 64). members_of_pairs (pair x v ps) ≡ Some ms) k.is e) in
        let g = held_pairs ps p.1 ts h.2 p.3 in
        record {
          group = item (tree.text s) (item p.0 g.group);
          is = ap (λ x. held ((tokens_of x ++ (tokens_of v ++ pairs_tokens ps)) ++ (map_end ∷ ts))) k.is
              ∙ ap (λ xs. pushed (tree.text s) (held xs)) (append_assoc (tokens_of v) (pairs_tokens ps) (map_end ∷ ts))
              ∙ ap (pushed (tree.text s)) (held_item v p.0 (pairs_tokens ps ++ (map_end ∷ ts)) h.1 p.2 ∙ ap (pushed p.0) g.is);
          members = ap (Rattle.ipld_tree.specs.Put.put s p.0) g.members ∙ sym p.5;
        }

  -- the tree of the item
  tree_is : (i : Item 64) (t : Tree) (block : List ℕ) → EncodesItem i block → tree_of_item i ≡ Some t → tree_of_block block ≡ Some t
  unfolding tree_of_block
  tree_is i t block encodes has =
      let run = over_block laws i t block encodes has in
      let all : only_tree (held (of_block block).tokens) ≡ Some t =
      ap (λ xs. only_tree (held xs)) (run.0 ∙ sym (append-nil (tokens_of i))) ∙ ap only_tree (held_item i t [] encodes.0 has) in
      rw (run.1, all)

  whole_where : (t : Tree) (block : List ℕ) → tree_of_block block ≡ Some t → (of_block block).error ≡ None
  unfolding tree_of_block
  whole_where t block e = no_error_where (of_block block).error (only_tree (held (of_block block).tokens)) t e

  tree_encoded : (t : Tree) (block : List ℕ) → tree_of_block block ≡ Some t → EncodesTree t block
  tree_encoded t block e =
      let s = encodes_tree laws block (whole_where t block e) in
      subst (λ u. EncodesTree u block) (some_tree s.0 t (sym (tree_is s.1.0 s.0 block s.1.1 s.1.2) ∙ e)) s.1

  pub decodes_encoded : (t : Tree) (block : List ℕ) → (tree_of_block block ≡ Some t) ↔ EncodesTree t block
  decodes_encoded t block = (tree_encoded t block, λ s. tree_is s.0 t block s.1 s.2)

  pub encoded_once : (t u : Tree) (block : List ℕ) → EncodesTree t block → EncodesTree u block → t ≡ u
  encoded_once t u block s r = some_tree t u (sym (tree_is s.0 t block s.1 s.2) ∙ tree_is r.0 u block r.1 r.2)
