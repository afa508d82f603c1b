-- The laws of a writer of images: the DAG-CBOR encodings of lists and structs.
use Rattle.std.proofs.Common.{◌≡◌, ℕ, zero, suc, ◌+◌, ◌^◌, ◌<◌, Bool, true, false, cond, List, [], ◌∷◌, ◌++◌, map, length, Option, Some, None, option_and_then, Less, Equal, Greater, is_lt, bytes_eq, inl, inr, refl, sym, ap, subst, ◌∙◌, arith}
use Rattle.std.specs.Prelude.{option_map, nat_lt, ◌⊎◌}
use Rattle.std.specs.Ordering.{match_ordering, ordering_reverse}
use Rattle.std.proofs.lemmas.Bool.{and_parts, and_from, cases_Bool, lt-ltb, ltb-true, ltb-false}
use Rattle.std.proofs.lemmas.Cmp.{nat_list_cmp_total}
use Rattle.std.proofs.lemmas.Map.Lookups.{exact_bytes}
use Rattle.std.proofs.lemmas.Option.{same_Some}
use Rattle.ipld_tree.specs.Tree.{Tree, list, entries, Items, no_items, item, Members, no_members, member}
use Rattle.ipld_tree.specs.TreeOf.{as_items}
use Rattle.ipld_tree.specs.Put.{put}
use Rattle.ipld_tokens.specs.ItemTree.{has_key}
use Rattle.ipld_tokens.proofs.Putting.{order, or, has_key-put}
use Rattle.ipld_ser.specs.Composites.{all_of, list_of, put_fields, struct_image}
use Rattle.ipld_ser.specs.Image.{both}
use Rattle.ipld_ser.specs.ImageWriter.{written_image, one_after_another, filed, fields_filed, entry_written, names_of, ListsInTurn, FieldsInTurn}
use Rattle.ipld_ser.specs.Names.{among, AreDistinct}
use Rattle.dag_cbor_format.specs.declared.major.Major.TheVariants.{Text, List as Array, Map}
use Rattle.dag_cbor_format.specs.Head.{head}
use Rattle.dag_cbor_format.specs.Canonical.{is_before, goes_first, placed, precedes, headed, joined, item_count, Written, written_text, written_pairs, written_with, written_map, canonical, canonical_items, canonical_members}
use Rattle.dag_cbor_format.proofs.KeyOrder.{first_once, first_trans, goes_from}
use Rattle.dag_cbor_format.proofs.CanonicalEncoding.{if_some, with_is, lt_less}
use Rattle.dag_cbor_format.proofs.Keys.{or_false, same_key}
use Rattle.dag_cbor_format.proofs.Writing.{headed_some}

-- ---- lists

both_are : {A B C : Type 0} (f : A → B → C) (o : Option A) (p : Option B) (c : C) → both f o p ≡ Some c → (a : A) × (b : B) × (o ≡ Some a) × (p ≡ Some b) × (f a b ≡ c)
both_are f None p c is = absurd cc
both_are f (Some a) None c is = absurd cc
both_are f (Some a) (Some b) c is = (a, b, refl, refl, cc)

items_written : (os : List (Option Tree)) (b : List ℕ) → one_after_another (map (written_image canonical) os) ≡ Some b
    → (ts : List Tree) × (all_of os ≡ Some ts) × (canonical_items (as_items ts) ≡ Some b) × (item_count (as_items ts) ≡ length os)
items_written [] b is = ([], refl, is, refl)
items_written (None ∷ os) b is = absurd cc
items_written (Some t ∷ os) b is =
    let parts = both_are ◌++◌ (canonical t) (one_after_another (map (written_image canonical) os)) b is in
    let rest = items_written os parts.1 parts.3 in
    (t ∷ rest.0, ap (both ◌∷◌ (Some t)) rest.1, ap (λ o. joined o (canonical_items (as_items rest.0))) parts.2 ∙ ap (joined (Some parts.0)) rest.2 ∙ ap Some parts.4, ap suc rest.3)

pub canonical_lists : ListsInTurn canonical (head Array)
canonical_lists os b below is =
    let w = items_written os b is in
    ap (λ o. option_and_then canonical (option_map (λ ts. list (as_items ts)) o)) w.1
    ∙ ap (headed Array (item_count (as_items w.0))) w.2 ∙ ap (λ n. headed Array n (Some b)) w.3 ∙ headed_some Array (length os) b below

-- ---- keys in order

shorter_first : (j k : List ℕ) → length j < length k → goes_first j k ≡ true
shorter_first j k lt = let test = lt-ltb (length j) (length k) lt in rw test refl

-- one of two keys goes first, if one is before the other by bytes
one_first : (j k : List ℕ) → is_before j k ≡ true → (goes_first j k ≡ true) ⊎ (goes_first k j ≡ true)
one_first j k before =
    elim (cases_Bool (nat_lt (length k) (length j))) [
      | inl shorter ↦ inr (shorter_first k j (ltb-true (length k) (length j) shorter))
      | inr longer ↦ inl (goes_from j k before (ltb-false (length k) (length j) longer))
    ]

placed_on : (k b : List ℕ) (e : List ℕ × List ℕ) (ps : Written) → goes_first e.0 k ≡ true → placed k b (e ∷ ps) ≡ e ∷ placed k b ps
placed_on k b e ps h = ap (λ c. cond c (e ∷ placed k b ps) ((k, b) ∷ (e ∷ ps))) h

placed_here : (k b : List ℕ) (e : List ℕ × List ℕ) (ps : Written) → goes_first e.0 k ≡ false → placed k b (e ∷ ps) ≡ (k, b) ∷ (e ∷ ps)
placed_here k b e ps h = ap (λ c. cond c (e ∷ placed k b ps) ((k, b) ∷ (e ∷ ps))) h

-- two keys that are placed one after the other have the same places in either order
placed_swap : (j c k b : List ℕ) (ps : Written) → goes_first j k ≡ true → placed j c (placed k b ps) ≡ placed k b (placed j c ps)
placed_swap j c k b [] h = placed_here j c (k, b) [] (first_once j k h) ∙ sym (placed_on k b (j, c) [] h)
placed_swap j c k b (e ∷ ps) h =
    elim (cases_Bool (goes_first e.0 j)) [
      | inl before ↦
          let both = first_trans e.0 j k before h in
          ap (placed j c) (placed_on k b e ps both) ∙ placed_on j c e (placed k b ps) before
          ∙ ap (λ (qs : Written). e ∷ qs) (placed_swap j c k b ps h)
          ∙ sym (ap (placed k b) (placed_on j c e ps before) ∙ placed_on k b e (placed j c ps) both)
      | inr behind ↦
          elim (cases_Bool (goes_first e.0 k)) [
            | inl between ↦
                ap (placed j c) (placed_on k b e ps between) ∙ placed_here j c e (placed k b ps) behind
                ∙ sym (ap (placed k b) (placed_here j c e ps behind) ∙ placed_on k b (j, c) (e ∷ ps) h ∙ ap (λ (qs : Written). (j, c) ∷ qs) (placed_on k b e ps between))
            | inr after ↦
                ap (placed j c) (placed_here k b e ps after) ∙ placed_here j c (k, b) (e ∷ ps) (first_once j k h)
                ∙ sym (ap (placed k b) (placed_here j c e ps behind) ∙ placed_on k b (j, c) (e ∷ ps) h ∙ ap (λ (qs : Written). (j, c) ∷ qs) (placed_here k b e ps after))
          ]
    ]

placed_count : (k b : List ℕ) (ps : Written) → length (placed k b ps) ≡ suc (length ps)
placed_count k b [] = refl
placed_count k b (e ∷ ps) =
    elim (goes_first e.0 k) as (λ c. length (cond c (e ∷ placed k b ps) ((k, b) ∷ (e ∷ ps))) ≡ suc (length (e ∷ ps))) [
      | true ↦ ap suc (placed_count k b ps)
      | false ↦ refl
    ]

-- ---- a key put into a map

precedes_later : (k j : List ℕ) (ms : Members) → order k j ≡ Less → precedes j ms ≡ true → precedes k ms ≡ true
precedes_later k j no_members less h = refl
precedes_later k j (member i u ms) less h =
    let parts = and_parts (is_before j i) (precedes j ms) h in
    and_from (is_before k i) (precedes k ms) (ap is_lt (nat_list_cmp_total.trans k j i less (lt_less (order j i) parts.0))) (precedes_later k j ms less parts.1)

precedes_put : (j k : List ℕ) (t : Tree) (ms : Members) → is_before j k ≡ true → precedes j ms ≡ true → precedes j (put k t ms) ≡ true
precedes_put j k t no_members h hs = and_from (is_before j k) true h refl
precedes_put j k t (member i u ms) h hs =
    let parts = and_parts (is_before j i) (precedes j ms) hs in
    elim (order k i) as (λ o. precedes j (match_ordering o (member k t (member i u ms)) (member i t ms) (member i u (put k t ms))) ≡ true) [
      | Less ↦ and_from (is_before j k) (precedes j (member i u ms)) h hs
      | Equal ↦ hs
      | Greater ↦ and_from (is_before j i) (precedes j (put k t ms)) parts.0 (precedes_put j k t ms h parts.1)
    ]

with_both : (k : List ℕ) (o : Option (List ℕ)) (q : Option Written) (b : List ℕ) (ps : Written) → o ≡ Some b → q ≡ Some ps → written_with k o q ≡ Some (placed k b ps)
with_both k o q b ps e f = rw (e, f) refl

added : (k : List ℕ) (t : Tree) (ms : Members) (b : List ℕ) (ps : Written) → precedes k ms ≡ true → canonical t ≡ Some b → canonical_members ms ≡ Some ps
    → canonical_members (member k t ms) ≡ Some (placed k b ps)
added k t ms b ps h e f = ap (λ c. cond c (written_with k (canonical t) (canonical_members ms)) None) h ∙ with_both k (canonical t) (canonical_members ms) b ps e f

placed_either : (j c k b : List ℕ) (ps : Written) → (goes_first j k ≡ true) ⊎ (goes_first k j ≡ true) → placed j c (placed k b ps) ≡ placed k b (placed j c ps)
placed_either j c k b ps (inl first) = placed_swap j c k b ps first
placed_either j c k b ps (inr second) = sym (placed_swap k b j c ps second)

-- a key that is not in the map is placed among the others
put_placed : (k : List ℕ) (t : Tree) (b : List ℕ) (ms : Members) (ps : Written) → canonical t ≡ Some b → canonical_members ms ≡ Some ps → has_key k ms ≡ false
    → canonical_members (put k t ms) ≡ Some (placed k b ps)
put_placed k t b no_members ps e f absent = added k t no_members b [] refl e refl ∙ ap (λ qs. Some (placed k b qs)) (same_Some [] ps f)
put_placed k t b (member j u ms) ps e f absent =
    let p = if_some (precedes j ms) _ ps f in
    let w = with_is j (canonical u) (canonical_members ms) ps p.1 in
    elim (order k j) as (λ o. order k j ≡ o → canonical_members (match_ordering o (member k t (member j u ms)) (member j t ms) (member j u (put k t ms))) ≡ Some (placed k b ps)) [
      | Less ↦ λ less. added k t (member j u ms) b ps (and_from (is_before k j) (precedes k ms) (ap is_lt less) (precedes_later k j ms less p.0)) e f
      | Equal ↦ λ same. absurd (
          let x : true ≡ false = sym (ap (λ i. or (bytes_eq k i) (has_key k ms)) (sym (exact_bytes k j same)) ∙ ap (λ a. or a (has_key k ms)) (same_key k)) ∙ absent in cc)
      | Greater ↦ λ greater.
          let less : order j k ≡ Less = nat_list_cmp_total.antisymm j k ∙ ap ordering_reverse greater in
          let none : has_key k ms ≡ false = (or_false (bytes_eq k j) (has_key k ms) absent).1 in
          added j u (put k t ms) w.0 (placed k b w.1) (precedes_put j k t ms (ap is_lt less) p.0) w.2 (put_placed k t b ms w.1 e w.3 none)
          ∙ ap Some (placed_either j w.0 k b w.1 (one_first j k (ap is_lt less)) ∙ ap (placed k b) w.4)
    ] refl

-- ---- fields that are all written

abbrev somes : Written → List (List ℕ × Option (List ℕ))
somes ps = map (λ e. (e.0, Some e.1)) ps

filed_somes : (k b : List ℕ) (ps : Written) → filed k (Some b) (somes ps) ≡ somes (placed k b ps)
filed_somes k b [] = refl
filed_somes k b (e ∷ ps) =
    elim (goes_first e.0 k) as (λ c. cond c ((e.0, Some e.1) ∷ filed k (Some b) (somes ps)) ((k, Some b) ∷ ((e.0, Some e.1) ∷ somes ps)) ≡ somes (cond c (e ∷ placed k b ps) ((k, b) ∷ (e ∷ ps)))) [
      | true ↦ ap (λ (es : List (List ℕ × Option (List ℕ))). (e.0, Some e.1) ∷ es) (filed_somes k b ps)
      | false ↦ refl
    ]

both_joined : (o p : Option (List ℕ)) → both ◌++◌ o p ≡ joined o p
both_joined None p = refl
both_joined (Some a) None = refl
both_joined (Some a) (Some b) = refl

pairs_of_somes : (ps : Written) → one_after_another (map (entry_written canonical) (somes ps)) ≡ written_pairs ps
pairs_of_somes [] = refl
pairs_of_somes (e ∷ ps) =
    both_joined (both ◌++◌ (written_text e.0) (Some e.1)) (one_after_another (map (entry_written canonical) (somes ps)))
    ∙ ap (λ o. joined o (one_after_another (map (entry_written canonical) (somes ps)))) (both_joined (written_text e.0) (Some e.1))
    ∙ ap (joined (joined (written_text e.0) (Some e.1))) (pairs_of_somes ps)

-- ---- a field that isn't written

abbrev Lacks : List (List ℕ × Option (List ℕ)) → Type 0
Lacks [] = ⊥
Lacks (e ∷ es) = (e.1 ≡ None) ⊎ Lacks es

lacks_here : (k : List ℕ) (o : Option (List ℕ)) (es : List (List ℕ × Option (List ℕ))) → o ≡ None → Lacks (filed k o es)
lacks_here k o [] none = inl none
lacks_here k o (e ∷ es) none =
    elim (goes_first e.0 k) as (λ c. Lacks (cond c (e ∷ filed k o es) ((k, o) ∷ (e ∷ es)))) [
      | true ↦ inr (lacks_here k o es none)
      | false ↦ inl none
    ]

lacks_filed : (k : List ℕ) (o : Option (List ℕ)) (es : List (List ℕ × Option (List ℕ))) → Lacks es → Lacks (filed k o es)
lacks_filed k o [] lacks = absurd lacks
lacks_filed k o (e ∷ es) lacks =
    elim (goes_first e.0 k) as (λ c. Lacks (cond c (e ∷ filed k o es) ((k, o) ∷ (e ∷ es)))) [
      | true ↦ elim lacks [ inl none ↦ inl none | inr later ↦ inr (lacks_filed k o es later) ]
      | false ↦ inr lacks
    ]

lacks_all : (fs : List (List ℕ × Option Tree)) (es : List (List ℕ × Option (List ℕ))) → Lacks es → Lacks (fields_filed canonical fs es)
lacks_all [] es lacks = lacks
lacks_all (f ∷ fs) es lacks = lacks_all fs (filed f.0 (written_image canonical f.1) es) (lacks_filed f.0 (written_image canonical f.1) es lacks)

both_none : (o : Option (List ℕ)) → both ◌++◌ o None ≡ None
both_none None = refl
both_none (Some a) = refl

lacks_none : (es : List (List ℕ × Option (List ℕ))) → Lacks es → one_after_another (map (entry_written canonical) es) ≡ None
lacks_none [] lacks = absurd lacks
lacks_none (e ∷ es) (inl none) =
    ap (λ o. both ◌++◌ o (one_after_another (map (entry_written canonical) es))) (ap (both ◌++◌ (written_text e.0)) none ∙ both_none (written_text e.0))
lacks_none (e ∷ es) (inr later) = ap (both ◌++◌ (entry_written canonical e)) (lacks_none es later) ∙ both_none (entry_written canonical e)

-- ---- structs

abbrev AllNew : List (List ℕ) → Members → Type 0
AllNew [] ms = Unit {0}
AllNew (n ∷ ns) ms = (has_key n ms ≡ false) × AllNew ns ms

new_none : (ns : List (List ℕ)) → AllNew ns no_members
new_none [] = tt
new_none (n ∷ ns) = (refl, new_none ns)

other_first : (c d : Bool) → cond c true d ≡ false → (c ≡ false) × (d ≡ false)
other_first true d is = absurd cc
other_first false d is = (refl, is)

new_put : (k : List ℕ) (t : Tree) (ns : List (List ℕ)) (ms : Members) → among k ns ≡ false → AllNew ns ms → AllNew ns (put k t ms)
new_put k t [] ms other new = tt
new_put k t (n ∷ ns) ms other new =
    let p = other_first (bytes_eq n k) (among k ns) other in
    (has_key-put n k t ms ∙ ap (λ c. or c (has_key n ms)) p.0 ∙ new.0, new_put k t ns ms p.1 new.1)

-- True if the fields, put into the map, are `members`, and `b` is the encoding of all their pairs.
record Filed (fs : List (List ℕ × Option Tree)) (ms : Members) (ps : Written) (b : List ℕ) : Type 0 where
  members : Members
  written : Written
  are : put_fields fs ms ≡ Some members
  encoded : canonical_members members ≡ Some written
  pairs : written_pairs written ≡ Some b
  count : length written ≡ length fs + length ps

field_filed : (k : List ℕ) (o : Option Tree) (fs : List (List ℕ × Option Tree)) (ms : Members) (ps : Written) (b : List ℕ)
    → ((ns : Members) (qs : Written) → AllNew (names_of fs) ns → canonical_members ns ≡ Some qs → one_after_another (map (entry_written canonical) (fields_filed canonical fs (somes qs))) ≡ Some b → Filed fs ns qs b)
    → among k (names_of fs) ≡ false → has_key k ms ≡ false → AllNew (names_of fs) ms → canonical_members ms ≡ Some ps
    → one_after_another (map (entry_written canonical) (fields_filed canonical fs (filed k (written_image canonical o) (somes ps)))) ≡ Some b → Filed ((k, o) ∷ fs) ms ps b
field_filed k None fs ms ps b others other absent new known is =
    absurd (let none = lacks_none (fields_filed canonical fs (filed k None (somes ps))) (lacks_all fs (filed k None (somes ps)) (lacks_here k None (somes ps) refl)) in let x : None ≡ Some b = sym none ∙ is in cc)
field_filed k (Some t) fs ms ps b others other absent new known is =
    elim (canonical t) as (λ o. canonical t ≡ o → one_after_another (map (entry_written canonical) (fields_filed canonical fs (filed k o (somes ps)))) ≡ Some b → Filed ((k, Some t) ∷ fs) ms ps b) [
      | None ↦ λ none is.
          absurd (let lacks = lacks_none (fields_filed canonical fs (filed k None (somes ps))) (lacks_all fs (filed k None (somes ps)) (lacks_here k None (somes ps) refl)) in let x : None ≡ Some b = sym lacks ∙ is in cc)
      | Some c ↦ λ has is.
          let rest = others (put k t ms) (placed k c ps) (new_put k t (names_of fs) ms other new) (put_placed k t c ms ps has known absent)
          (ap (λ es. one_after_another (map (entry_written canonical) (fields_filed canonical fs es))) (sym (filed_somes k c ps)) ∙ is) in
          record {
            members = rest.members;
            written = rest.written;
            are = rest.are;
            encoded = rest.encoded;
            pairs = rest.pairs;
            count = let one = placed_count k c ps in let all = rest.count in omega arith;
          }
    ] refl is

fields_are_filed : (fs : List (List ℕ × Option Tree)) (ms : Members) (ps : Written) (b : List ℕ) → AreDistinct (names_of fs) → AllNew (names_of fs) ms → canonical_members ms ≡ Some ps
    → one_after_another (map (entry_written canonical) (fields_filed canonical fs (somes ps))) ≡ Some b → Filed fs ms ps b
fields_are_filed [] ms ps b distinct new known is = record { members = ms; written = ps; are = refl; encoded = known; pairs = sym (pairs_of_somes ps) ∙ is; count = let n = length ps in omega arith }
fields_are_filed (f ∷ fs) ms ps b distinct new known is =
    field_filed f.0 f.1 fs ms ps b (λ ns qs fresh encoded joined. fields_are_filed fs ns qs b distinct.1 fresh encoded joined) distinct.0 new.0 new.1 known is

pub canonical_structs : FieldsInTurn canonical (head Map)
canonical_structs fs b distinct below is =
    let w = fields_are_filed fs no_members [] b distinct (new_none (names_of fs)) refl is in
    ap (λ o. option_and_then canonical (option_map entries o)) w.are ∙ ap written_map w.encoded
    ∙ ap (headed Map (length w.written)) w.pairs ∙ ap (λ n. headed Map n (Some b)) (w.count ∙ (let n = length fs in omega arith)) ∙ headed_some Map (length fs) b below
