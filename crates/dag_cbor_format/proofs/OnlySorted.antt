-- An encoding with sorted keys is what is written.
use Rattle.std.proofs.Common.{◌≡◌, ℕ, suc, pos, negsuc, ◌^◌, ◌<◌, true, false, List, [], ◌∷◌, ◌++◌, length, Option, Some, None, Less, Equal, Greater, is_lt, bytes_eq, refl, sym, ap, subst, ◌∙◌, append_assoc}
use Rattle.std.specs.Prelude.{if◌then◌else◌, option_map}
use Rattle.std.specs.Ordering.{match_ordering, ordering_reverse}
use Rattle.std.proofs.lemmas.Bool.{and_parts, and_from, lt-ltb}
use Rattle.std.proofs.lemmas.Cmp.{nat_list_cmp_total}
use Rattle.std.proofs.lemmas.Map.Lookups.{exact_bytes}
use Rattle.std.proofs.lemmas.Option.{same_Some}
use Rattle.ipld_tree.specs.Tree.{Tree, Items, no_items, item, Members, no_members, member}
use Rattle.ipld_tree.specs.Tree as tree
use Rattle.ipld_tree.specs.Put.{put}
use Rattle.ipld_tokens.specs.Token.{none, unit, unit_struct, boolean, integer, unsigned, character, text, unit_variant}
use Rattle.ipld_tokens.specs.Item.{Item, atom_item, bytes_item, some_item, variant_item, list_item, map_item, link_item, Parts, no_parts, part, Pairs, no_pairs, pair}
use Rattle.ipld_tokens.specs.ItemOrder.{InMapsOfParts, InMapsOfValues}
use Rattle.ipld_tokens.specs.ItemTree.{tree_of_item, items_of_parts, members_of_pairs, item_before, has_key}
use Rattle.dag_cbor_format.specs.declared.major.Major.TheVariants.{Bytes, Text, List as Array, Map, Tag}
use Rattle.dag_cbor_format.specs.Head.{head}
use Rattle.dag_cbor_format.specs.Encoding.{part_count, pair_count, encoding, parts_encoding, pairs_encoding, HasEncoding, HaveEncodings, PairsHaveEncodings, EncodesItem}
use Rattle.dag_cbor_format.specs.Canonical.{is_before, goes_first, placed, precedes, headed, joined, item_count, Written, written_text, written_pairs, written_with, written_map, canonical, canonical_items, canonical_members}
use Rattle.dag_cbor_format.specs.SortedKeys.{IsFirst, HasSortedKeys, AreSorted}
use Rattle.dag_cbor_format.proofs.KeyOrder.{first_once}
use Rattle.dag_cbor_format.proofs.ItemHeaderLaws.{CidLaws}
use Rattle.dag_cbor_format.proofs.Complete.{key_text_is, list_is, map_is, part_is}
use Rattle.ipld_tokens.proofs.Putting.{order, or}
use Rattle.dag_cbor_format.proofs.Keys.{or_false, same_key, put_new_is}
use Rattle.dag_cbor_format.proofs.CanonicalEncoding.{if_some, with_is, lt_less, AllAfter, after_placed}
use Rattle.dag_cbor_format.proofs.Writing.{headed_some, text_written, link_written}

-- ---- parts

joined_both : (o p : Option (List ℕ)) (a b : List ℕ) → o ≡ Some a → p ≡ Some b → joined o p ≡ Some (a ++ b)
joined_both o p a b e f = rw (e, f)

-- ---- a key put into a map

abbrev FirstOfAll : List ℕ → Members → Type 0
FirstOfAll k no_members = Unit {0}
FirstOfAll k (member j t ms) = (goes_first k j ≡ true) × FirstOfAll k ms

first_put : (k j : List ℕ) (t : Tree) (ms : Members) → goes_first k j ≡ true → FirstOfAll k ms → FirstOfAll k (put j t ms)
first_put k j t no_members h hs = (h, tt)
first_put k j t (member i u ms) h hs =
    elim (order j i) as (λ o. FirstOfAll k (match_ordering o (member j t (member i u ms)) (member i t ms) (member i u (put j t ms)))) [
      | Less ↦ (h, hs)
      | Equal ↦ hs
      | Greater ↦ (hs.0, first_put k j t ms h hs.1)
    ]

precedes_later : (k j : List ℕ) (ms : Members) → order k j ≡ Less → precedes j ms ≡ true → precedes k ms ≡ true
precedes_later k j no_members less h = refl
precedes_later k j (member i u ms) less h =
    let parts = and_parts (is_before j i) (precedes j ms) h in
    and_from (is_before k i) (precedes k ms) (ap is_lt (nat_list_cmp_total.trans k j i less (lt_less (order j i) parts.0))) (precedes_later k j ms less parts.1)

precedes_put : (j k : List ℕ) (t : Tree) (ms : Members) → is_before j k ≡ true → precedes j ms ≡ true → precedes j (put k t ms) ≡ true
precedes_put j k t no_members h hs = and_from (is_before j k) true h refl
precedes_put j k t (member i u ms) h hs =
    let parts = and_parts (is_before j i) (precedes j ms) hs in
    elim (order k i) as (λ o. precedes j (match_ordering o (member k t (member i u ms)) (member i t ms) (member i u (put k t ms))) ≡ true) [
      | Less ↦ and_from (is_before j k) (precedes j (member i u ms)) h hs
      | Equal ↦ hs
      | Greater ↦ and_from (is_before j i) (precedes j (put k t ms)) parts.0 (precedes_put j k t ms h parts.1)
    ]

-- ---- a key put before others in their order

written_after : (k : List ℕ) (ms : Members) (ps : Written) → FirstOfAll k ms → canonical_members ms ≡ Some ps → AllAfter k ps
written_after k no_members ps hs e = subst (AllAfter k) (same_Some [] ps e) tt
written_after k (member j t ms) ps hs e =
    let p = if_some (precedes j ms) _ ps e in
    let w = with_is j (canonical t) (canonical_members ms) ps p.1 in
    subst (AllAfter k) w.4 (after_placed k j w.0 w.1 hs.0 (written_after k ms w.1 hs.1 w.3))

placed_first : (k b : List ℕ) (ps : Written) → AllAfter k ps → placed k b ps ≡ (k, b) ∷ ps
placed_first k b [] hs = refl
placed_first k b (e ∷ ps) hs = ap (λ c. if c then e ∷ placed k b ps else (k, b) ∷ (e ∷ ps)) (first_once k e.0 hs.0)

placed_behind : (j c k b : List ℕ) (ps : Written) → goes_first k j ≡ true → placed j c ((k, b) ∷ ps) ≡ (k, b) ∷ placed j c ps
placed_behind j c k b ps h = ap (λ a. if a then (k, b) ∷ placed j c ps else (j, c) ∷ ((k, b) ∷ ps)) h

with_both : (k : List ℕ) (o : Option (List ℕ)) (q : Option Written) (b : List ℕ) (ps : Written) → o ≡ Some b → q ≡ Some ps → written_with k o q ≡ Some (placed k b ps)
with_both k o q b ps e f = rw (e, f)

added : (k : List ℕ) (t : Tree) (ms : Members) (b : List ℕ) (ps : Written) → precedes k ms ≡ true → canonical t ≡ Some b → canonical_members ms ≡ Some ps
    → canonical_members (member k t ms) ≡ Some (placed k b ps)
added k t ms b ps h e f =
    ap (λ c. if c then written_with k (canonical t) (canonical_members ms) else None) h ∙ with_both k (canonical t) (canonical_members ms) b ps e f

put_written : (k : List ℕ) (t : Tree) (b : List ℕ) (ms : Members) (ps : Written) → canonical t ≡ Some b → canonical_members ms ≡ Some ps → has_key k ms ≡ false → FirstOfAll k ms
    → canonical_members (put k t ms) ≡ Some ((k, b) ∷ ps)
put_written k t b no_members ps e f absent first =
    added k t no_members b [] refl e refl ∙ ap (λ qs. Some ((k, b) ∷ qs)) (same_Some [] ps f)
put_written k t b (member j u ms) ps e f absent first =
    let p = if_some (precedes j ms) _ ps f in
    let w = with_is j (canonical u) (canonical_members ms) ps p.1 in
    elim (order k j) as (λ o. order k j ≡ o
    → canonical_members (match_ordering o (member k t (member j u ms)) (member j t ms) (member j u (put k t ms))) ≡ Some ((k, b) ∷ ps)) [
      | Less ↦ λ less.
          added k t (member j u ms) b ps (and_from (is_before k j) (precedes k ms) (ap is_lt less) (precedes_later k j ms less p.0)) e f
          ∙ ap Some (placed_first k b ps (written_after k (member j u ms) ps first f))
      | Equal ↦ λ same. absurd (
          let x : true ≡ false = sym (ap (λ i. or (bytes_eq k i) (has_key k ms)) (sym (exact_bytes k j same)) ∙ ap (λ a. or a (has_key k ms)) (same_key k)) ∙ absent in cc)
      | Greater ↦ λ greater.
          let less : order j k ≡ Less = nat_list_cmp_total.antisymm j k ∙ ap ordering_reverse greater in
          let none : has_key k ms ≡ false = (or_false (bytes_eq k j) (has_key k ms) absent).1 in
          added j u (put k t ms) w.0 ((k, b) ∷ w.1) (precedes_put j k t ms (ap is_lt less) p.0) w.2 (put_written k t b ms w.1 e w.3 none first.1)
          ∙ ap Some (placed_behind j w.0 k b w.1 first.0 ∙ ap (λ qs. (k, b) ∷ qs) w.4)
    ] refl

-- ---- items

-- what is written of a map's pairs
record Sorted (ps : Pairs 64) (ms : Members) : Type 0 where
  entries : Written
  members : canonical_members ms ≡ Some entries
  is : written_pairs entries ≡ Some (pairs_encoding ps)
  count : length entries ≡ pair_count ps
  first : (k : List ℕ) → IsFirst (Some k) ps → FirstOfAll k ms

module _ (laws : CidLaws) where
  mutual
    only_item : (i : Item 64) (t : Tree) → HasEncoding i → tree_of_item i ≡ Some t → HasSortedKeys i → canonical t ≡ Some (encoding i)
    only_item (atom_item none) t h e s = ap canonical (sym (same_Some _ t e))
    only_item (atom_item unit) t h e s = absurd h
    only_item (atom_item unit_struct) t h e s = absurd h
    only_item (atom_item (boolean true)) t h e s = ap canonical (sym (same_Some _ t e))
    only_item (atom_item (boolean false)) t h e s = ap canonical (sym (same_Some _ t e))
    only_item (atom_item (integer (pos n))) t h e s = ap canonical (sym (same_Some _ t e)) ∙ ap (λ b. if b then Some (encoding (atom_item (integer (pos n)))) else None) (lt-ltb n (2 ^ 64) h)
    only_item (atom_item (integer (negsuc n))) t h e s = ap canonical (sym (same_Some _ t e)) ∙ ap (λ b. if b then Some (encoding (atom_item (integer (negsuc n)))) else None) (lt-ltb n (2 ^ 64) h)
    only_item (atom_item (unsigned n)) t h e s = absurd h
    only_item (atom_item (character c)) t h e s = absurd h
    only_item (atom_item (text x)) t h e s = ap canonical (sym (same_Some _ t e)) ∙ text_written x h.0 h.1
    only_item (atom_item (unit_variant x)) t h e s = absurd h
    only_item (bytes_item b) t h e s = ap canonical (sym (same_Some _ t e)) ∙ headed_some Bytes (length b) b h
    only_item (some_item i) t h e s = absurd h
    only_item (variant_item name i) t h e s = absurd h
    only_item (list_item is) t h e s =
        let us = list_is (items_of_parts is) t e in
        let same : tree.list us.0 ≡ t = same_Some _ t (sym (ap (option_map tree.list) us.1) ∙ e) in
        let parts = only_parts is us.0 h.1 us.1 s in
        ap canonical (sym same) ∙ ap (λ n. headed Array n (canonical_items us.0)) parts.1 ∙ ap (headed Array (part_count is)) parts.0
        ∙ headed_some Array (part_count is) (parts_encoding is) h.0
    only_item (map_item ps) t h e s =
        let ms = map_is (members_of_pairs ps) t e in
        let same : tree.entries ms.0 ≡ t = same_Some _ t (sym (ap (option_map tree.entries) ms.1) ∙ e) in
        let pairs = only_pairs ps ms.0 h.1 ms.1 s.0 s.1 in
        ap canonical (sym same) ∙ ap written_map pairs.members ∙ ap (λ n. headed Map n (written_pairs pairs.entries)) pairs.count
        ∙ ap (headed Map (pair_count ps)) pairs.is ∙ headed_some Map (pair_count ps) (pairs_encoding ps) h.0
    only_item (link_item b cid is) t h e s =
        let same = laws.once b cid is in
        let fits = subst (λ xs. suc (length xs) < 2 ^ 64) same h in
        ap canonical (sym (same_Some _ t e)) ∙ link_written cid (laws.valid b cid is) fits
        ∙ ap (λ (xs : List ℕ). Some (head Tag 42 ++ (head Bytes (suc (length xs)) ++ 0 ∷ xs))) (sym same)

    only_parts : (is : Parts 64) (ts : Items) → HaveEncodings is → items_of_parts is ≡ Some ts → InMapsOfParts AreSorted is
        → (canonical_items ts ≡ Some (parts_encoding is)) × (item_count ts ≡ part_count is)
    only_parts no_parts ts h e s = (ap canonical_items (sym (same_Some no_items ts e)), ap item_count (sym (same_Some no_items ts e)))
    only_parts (part i is) ts h e s =
        let p = part_is (tree_of_item i) (items_of_parts is) ts e in
        let same : item p.0 p.1 ≡ ts = same_Some _ ts (sym (ap (λ o. item_before o (items_of_parts is)) p.2 ∙ ap (item_before (Some p.0)) p.3) ∙ e) in
        let more = only_parts is p.1 h.1 p.3 s.1 in (
          ap canonical_items (sym same) ∙ joined_both (canonical p.0) (canonical_items p.1) (encoding i) (parts_encoding is) (only_item i p.0 h.0 p.2 s.0) more.0,
          ap item_count (sym same) ∙ ap suc more.1,
        )

    only_pairs : (ps : Pairs 64) (ms : Members) → PairsHaveEncodings ps → members_of_pairs ps ≡ Some ms → AreSorted ps → InMapsOfValues AreSorted ps → Sorted ps ms
    only_pairs no_pairs ms h e s vs =
        let same = same_Some no_members ms e in
        record { entries = []; members = ap canonical_members (sym same); is = refl; count = refl; first = λ k f. subst (FirstOfAll k) same tt }
    only_pairs (pair key v ps) ms h e s vs =
        let x = key_text_is key h.0 in
        let k = x.bytes in
        let p = put_new_is k (tree_of_item v) (members_of_pairs ps) ms (subst (λ (y : Item 64). members_of_pairs (pair y v ps) ≡ Some ms) x.is e) in
        let s' = subst (λ (y : Item 64). AreSorted (pair y v ps)) x.is s in
        let more = only_pairs ps p.1 h.2 p.3 s'.1 vs.1 in
        let value = only_item v p.0 h.1 p.2 vs.0 in
        let here = more.first k s'.0 in
        record {
          entries = (k, encoding v) ∷ more.entries;
          members = ap canonical_members p.5 ∙ put_written k p.0 (encoding v) p.1 more.entries value more.members p.4 here;
          is = joined_both (joined (written_text k) (Some (encoding v))) (written_pairs more.entries) ((head Text (length k) ++ k) ++ encoding v) (pairs_encoding ps)
              (joined_both (written_text k) (Some (encoding v)) (head Text (length k) ++ k) (encoding v) (text_written k x.utf8 x.fits) refl) more.is
              ∙ ap Some (append_assoc (head Text (length k) ++ k) (encoding v) (pairs_encoding ps))
              ∙ ap (λ (y : Item 64). Some (encoding y ++ (encoding v ++ pairs_encoding ps))) (sym x.is);
          count = ap suc more.count;
          first = λ j f. subst (FirstOfAll j) (sym p.5) (first_put j k p.0 p.1 (subst (λ (y : Item 64). IsFirst (Some j) (pair y v ps)) x.is f).0 (more.first j (subst (λ (y : Item 64). IsFirst (Some j) (pair y v ps)) x.is f).1));
        }

  pub only_sorted : (i : Item 64) (t : Tree) (block : List ℕ) → EncodesItem i block → tree_of_item i ≡ Some t → HasSortedKeys i → canonical t ≡ Some block
  only_sorted i t block encodes e s = only_item i t encodes.0 e s ∙ ap Some (sym encodes.1)
