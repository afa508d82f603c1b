-- The links of a block are those of the item that it encodes.
use Rattle.std.proofs.Common.{◌≡◌, ℕ, Bool, false, List, [], ◌∷◌, ◌++◌, Option, Some, None, refl, sym, ap, ◌∙◌, append_assoc}
use Rattle.std.specs.Prelude.{◌↔◌}
use Rattle.std.proofs.lemmas.List.{append-nil}
use Rattle.std.proofs.lemmas.Option.{same_Some}
use Rattle.ipld_cid.specs.Cid.{Link}
use Rattle.ipld_tree.specs.Tree.{Tree}
use Rattle.ipld_tree.specs.LinkTimes.{AsOften, times}
use Rattle.ipld_tree.specs.Walk.{links_of}
use Rattle.ipld_tokens.specs.Token.{TokenModel, seq_end, map_end}
use Rattle.ipld_tokens.specs.Item.{Item, atom_item, bytes_item, some_item, variant_item, list_item, map_item, link_item, Parts, no_parts, part, Pairs, no_pairs, pair, tokens_of, parts_tokens, pairs_tokens, links_in, parts_links, pairs_links}
use Rattle.ipld_tokens.specs.ItemTree.{tree_of_item}
use Rattle.ipld_tokens.proofs.ItemLinks.{same_links}
use Rattle.dag_cbor_format.specs.declared.error.CborError.{CborError}
use Rattle.dag_cbor_format.specs.Encoding.{HasEncoding, HaveEncodings, PairsHaveEncodings, EncodesItem, EncodesTree}
use Rattle.dag_cbor_format.specs.Reading.{Ran, unless_error, of_block}
use Rattle.dag_cbor_format.specs.Block.{tree_of_block}
use Rattle.dag_cbor_format.specs.Found.{link_before, links_among, links_of_run, links_found}
use Rattle.dag_cbor_format.specs.Trace.{tokens_in, Trace, trace_of, links_read}
use Rattle.dag_cbor_format.specs.WithFloats.{EncodesIn}
use Rattle.dag_cbor_format.proofs.EventsOf.{events_tokens}
use Rattle.dag_cbor_format.proofs.FloatLaws.{has_encoding}
use Rattle.dag_cbor_format.proofs.ItemHeaderLaws.{CidLaws, read_link-complete}
use Rattle.dag_cbor_format.proofs.Complete.{key_text_is, over_block, over_block_in}
use Rattle.dag_cbor_format.proofs.Running.{erased_block}
use Rattle.dag_cbor_format.proofs.Sound.{encodes_tree, encodes_tree_in}
use Rattle.dag_cbor_format.proofs.TreeOfBlock.{no_error_where, decodes_encoded}

module _ (laws : CidLaws) where
  mutual
    among_item : (i : Item 64) (ts : List TokenModel) → HasEncoding i → links_among (tokens_of i ++ ts) ≡ links_in i ++ links_among ts
    among_item (atom_item a) ts h = refl
    among_item (bytes_item b) ts h = refl
    among_item (some_item i) ts h = absurd h
    among_item (variant_item name i) ts h = absurd h
    among_item (list_item is) ts h =
        ap links_among (append_assoc (parts_tokens is) (seq_end ∷ []) ts) ∙ among_parts is (seq_end ∷ ts) h.1
    among_item (map_item ps) ts h =
        ap links_among (append_assoc (pairs_tokens ps) (map_end ∷ []) ts) ∙ among_pairs ps (map_end ∷ ts) h.1
    among_item (link_item b cid is) ts h = ap (λ o. link_before o (links_among ts)) (read_link-complete laws b cid is)

    among_parts : (is : Parts 64) (ts : List TokenModel) → HaveEncodings is → links_among (parts_tokens is ++ ts) ≡ parts_links is ++ links_among ts
    among_parts no_parts ts h = refl
    among_parts (part i is) ts h =
        ap links_among (append_assoc (tokens_of i) (parts_tokens is) ts) ∙ among_item i (parts_tokens is ++ ts) h.0
        ∙ ap (λ ls. links_in i ++ ls) (among_parts is ts h.1) ∙ sym (append_assoc (links_in i) (parts_links is) (links_among ts))

    among_pairs : (ps : Pairs 64) (ts : List TokenModel) → PairsHaveEncodings ps → links_among (pairs_tokens ps ++ ts) ≡ pairs_links ps ++ links_among ts
    among_pairs no_pairs ts h = refl
    among_pairs (pair key v ps) ts h =
        let k = key_text_is key h.0 in
        ap (λ x. links_among ((tokens_of x ++ (tokens_of v ++ pairs_tokens ps)) ++ ts)) k.is
        ∙ ap links_among (append_assoc (tokens_of v) (pairs_tokens ps) ts) ∙ among_item v (pairs_tokens ps ++ ts) h.1
        ∙ ap (λ ls. links_in v ++ ls) (among_pairs ps ts h.2) ∙ sym (append_assoc (links_in v) (pairs_links ps) (links_among ts))

  -- the links of the item
  pub found_is : (i : Item 64) (t : Tree) (block : List ℕ) → EncodesItem i block → tree_of_item i ≡ Some t → links_found block ≡ Some (links_in i)
  unfolding links_found
  found_is i t block encodes has =
      let run = over_block laws i t block encodes has in
      let all : links_among (of_block block).tokens ≡ links_in i =
      ap links_among (run.0 ∙ sym (append-nil (tokens_of i))) ∙ among_item i [] encodes.0 ∙ append-nil (links_in i) in
      rw (run.1, all)

  -- with floats or without
  pub read_is : (floats : Bool) (i : Item 64) (t : Tree) (block : List ℕ) → EncodesIn floats i block → tree_of_item i ≡ Some t → links_read floats block ≡ Some (links_in i)
  unfolding links_read
  read_is floats i t block encodes has =
      let over = over_block_in laws floats i t block encodes has in
      let tokens = ap (λ (x : Trace). tokens_in x.events) over.is ∙ ap tokens_in (append-nil over.events) ∙ events_tokens i over.events over.of in
      let all : links_among (tokens_in (trace_of floats block).events) ≡ links_in i =
      ap links_among (tokens ∙ sym (append-nil (tokens_of i))) ∙ among_item i [] (has_encoding floats i block encodes) ∙ append-nil (links_in i) in
      ap (λ o. unless_error o (Some (links_among (tokens_in (trace_of floats block).events)))) (ap (λ (x : Trace). x.error) over.is) ∙ ap Some all

  pub read_only : (floats : Bool) (block : List ℕ) (ls : List Link) → links_read floats block ≡ Some ls
      → (i : Item 64) × (t : Tree) × EncodesIn floats i block × (tree_of_item i ≡ Some t) × (ls ≡ links_in i)
  unfolding links_read
  read_only floats block ls found =
      let s = encodes_tree_in laws floats block (no_error_where (trace_of floats block).error (Some (links_among (tokens_in (trace_of floats block).events))) ls found) in
      let has = s.1 in
      let same : Some ls ≡ Some (links_in has.0) = sym found ∙ read_is floats has.0 s.0 block has.1 has.2 in
      (has.0, s.0, has.1, has.2, cc)

  none_at : (ran : Ran) (o : Option CborError) → ran.error ≡ o → (ran.error ≡ None → ⊥) → links_of_run ran ≡ None
  none_at ran None e not_whole = absurd (not_whole e)
  none_at ran (Some x) e not_whole = rw e

  -- links where a tree is encoded alone
  pub found_only : (block : List ℕ) (ls : List Link) → links_found block ≡ Some ls
      → (i : Item 64) × (t : Tree) × EncodesItem i block × (tree_of_item i ≡ Some t) × (ls ≡ links_in i)
  unfolding links_found
  found_only block ls found =
      let s = encodes_tree laws block (no_error_where (of_block block).error (Some (links_among (of_block block).tokens)) ls found) in
      let has = s.1 in
      let same : Some ls ≡ Some (links_in has.0) = sym found ∙ found_is has.0 s.0 block has.1 has.2 in
      (has.0, s.0, has.1, has.2, cc)

  -- no links where no tree is encoded
  pub none_found : (block : List ℕ) → ((t : Tree) → EncodesTree t block → ⊥) → links_found block ≡ None
  unfolding links_found
  none_found block no_tree =
      none_at (of_block block) (of_block block).error refl (λ whole. let s = encodes_tree laws block whole in no_tree s.0 s.1)

  none_is : {A : Type 0} (o : Option A) → ((x : A) → o ≡ Some x → ⊥) → o ≡ None
  none_is None h = refl
  none_is (Some x) h = absurd (h x refl)

  not_both : {A : Type 0} (o : Option A) (x : A) → o ≡ None → o ≡ Some x → ⊥
  not_both o x e f = let y : None ≡ Some x = sym e ∙ f in absurd (cc y)

  -- links are found where a tree is encoded
  pub found_where : (block : List ℕ) → (tree_of_block block ≡ None) ↔ (links_found block ≡ None)
  found_where block = (
    λ none. none_found block (λ t s. not_both (tree_of_block block) t none ((decodes_encoded laws t block).1 s)),
    λ none. none_is (tree_of_block block) (
        λ t e.
        let s = (decodes_encoded laws t block).0 e in
        not_both (links_found block) (links_in s.0) none (found_is s.0 t block s.1 s.2)),
  )

  -- each link is found as often as the tree has it
  pub found_in_tree : (t : Tree) (block : List ℕ) (links : List Link) → tree_of_block block ≡ Some t → links_found block ≡ Some links → AsOften links (links_of t)
  found_in_tree t block links decoded found cid =
      let s = (decodes_encoded laws t block).0 decoded in
      ap (times cid) (same_Some links (links_in s.0) (sym found ∙ found_is s.0 t block s.1 s.2)) ∙ same_links s.0 t s.2 cid

-- without floats they are those that are found
pub read_without : (block : List ℕ) → links_read false block ≡ links_found block
unfolding links_read links_found
read_without block = ap links_of_run (erased_block block)
