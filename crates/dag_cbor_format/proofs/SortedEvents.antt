-- The keys of a block come in length-first order where the item that it encodes has sorted keys.
use Rattle.std.proofs.Common.{◌≡◌, ℕ, Bool, true, false, List, [], ◌∷◌, ◌++◌, Option, Some, None, refl, sym, ap, subst, ◌∙◌, append_assoc}
use Rattle.std.specs.Prelude.{◌&&◌, ◌↔◌}
use Rattle.std.proofs.lemmas.Bool.{and_parts, and_from}
use Rattle.ipld_tree.specs.Tree.{Tree}
use Rattle.ipld_tokens.specs.Token.{text, seq_end, map_end, none, unit, unit_struct, boolean, integer, unsigned, character, unit_variant}
use Rattle.ipld_tokens.specs.Item.{Item, atom_item, bytes_item, some_item, variant_item, list_item, map_item, link_item, Parts, no_parts, part, Pairs, no_pairs, pair}
use Rattle.ipld_tokens.specs.ItemOrder.{InMapsOfParts, InMapsOfValues}
use Rattle.ipld_tokens.specs.ItemTree.{tree_of_item, key_text}
use Rattle.dag_cbor_format.specs.Canonical.{goes_first}
use Rattle.dag_cbor_format.specs.KeysAscend.{LastKeys, follows, keys_ascend, is_sorted}
use Rattle.dag_cbor_format.specs.Reading.{unless_error}
use Rattle.dag_cbor_format.specs.SortedKeys.{GoesFirst, IsFirst, AreSorted, HasSortedKeys}
use Rattle.dag_cbor_format.specs.Trace.{Event, Trace, trace_of}
use Rattle.dag_cbor_format.specs.WithFloats.{EncodesIn}
use Rattle.dag_cbor_format.proofs.Complete.{over_block_in}
use Rattle.dag_cbor_format.proofs.EventsOf.{EventsOf, PartsEvents, PairsEvents}
use Rattle.dag_cbor_format.proofs.ItemHeaderLaws.{CidLaws}
use Rattle.dag_cbor_format.proofs.KeyOrder.{first_trans}

-- the last key goes before those of all pairs
abbrev FirstOf : Option (List ℕ) → Pairs 64 → Type 0
FirstOf None ps = Unit {0}
FirstOf (Some k) ps = IsFirst (Some k) ps

earlier_key : (j k : List ℕ) (o : Option (List ℕ)) → goes_first j k ≡ true → GoesFirst (Some k) o → GoesFirst (Some j) o
earlier_key j k None e g = absurd g
earlier_key j k (Some i) e g = first_trans j k i e g

earlier_first : (j k : List ℕ) (ps : Pairs 64) → goes_first j k ≡ true → IsFirst (Some k) ps → IsFirst (Some j) ps
earlier_first j k no_pairs e h = tt
earlier_first j k (pair key v ps) e h = (earlier_key j k (key_text key) e h.0, earlier_first j k ps e h.1)

first_of : (last : Option (List ℕ)) (s : List ℕ) (ps : Pairs 64) → follows last s ≡ true → IsFirst (Some s) ps → FirstOf last ps
first_of None s ps e h = tt
first_of (Some j) s ps e h = earlier_first j s ps e h

first_pair : (last : Option (List ℕ)) (s : List ℕ) (v : Item 64) (ps : Pairs 64) → follows last s ≡ true → FirstOf last ps → FirstOf last (pair (atom_item (text s)) v ps)
first_pair None s v ps e h = tt
first_pair (Some j) s v ps e h = (e, h)

follows_first : (last : Option (List ℕ)) (s : List ℕ) (v : Item 64) (ps : Pairs 64) → FirstOf last (pair (atom_item (text s)) v ps) → follows last s ≡ true
follows_first None s v ps h = refl
follows_first (Some j) s v ps h = h.0

-- what is known of the rest, where the events are those of an item
mutual
  sorted_item : (i : Item 64) (lasts : LastKeys) (es more : List Event) → EventsOf i es → keys_ascend lasts (es ++ more) ≡ true → HasSortedKeys i × (keys_ascend lasts more ≡ true)
  sorted_item (atom_item none) lasts es more h e = (tt, sym (ap (λ xs. keys_ascend lasts (xs ++ more)) h.1) ∙ e)
  sorted_item (atom_item unit) lasts es more h e = (tt, sym (ap (λ xs. keys_ascend lasts (xs ++ more)) h.1) ∙ e)
  sorted_item (atom_item unit_struct) lasts es more h e = (tt, sym (ap (λ xs. keys_ascend lasts (xs ++ more)) h.1) ∙ e)
  sorted_item (atom_item (boolean b)) lasts es more h e = (tt, sym (ap (λ xs. keys_ascend lasts (xs ++ more)) h.1) ∙ e)
  sorted_item (atom_item (integer n)) lasts es more h e = (tt, sym (ap (λ xs. keys_ascend lasts (xs ++ more)) h.1) ∙ e)
  sorted_item (atom_item (unsigned n)) lasts es more h e = (tt, sym (ap (λ xs. keys_ascend lasts (xs ++ more)) h.1) ∙ e)
  sorted_item (atom_item (character c)) lasts es more h e = (tt, sym (ap (λ xs. keys_ascend lasts (xs ++ more)) h.1) ∙ e)
  sorted_item (atom_item (text s)) lasts es more h e = (tt, sym (ap (λ xs. keys_ascend lasts (xs ++ more)) h.1) ∙ e)
  sorted_item (atom_item (unit_variant s)) lasts es more h e = (tt, sym (ap (λ xs. keys_ascend lasts (xs ++ more)) h.1) ∙ e)
  sorted_item (bytes_item b) lasts es more h e = (tt, sym (ap (λ xs. keys_ascend lasts (xs ++ more)) h.1) ∙ e)
  sorted_item (some_item i) lasts es more h e = absurd h
  sorted_item (variant_item name i) lasts es more h e = absurd h
  sorted_item (list_item is) lasts es more h e =
      let inner = sorted_parts is lasts h.2 ((seq_end, h.1, false) ∷ more) h.3
      (sym (ap (λ xs. keys_ascend lasts (xs ++ more)) h.4 ∙ ap (keys_ascend lasts) (append_assoc h.2 ((seq_end, h.1, false) ∷ []) more)) ∙ e) in
      inner
  sorted_item (map_item ps) lasts es more h e =
      let inner = sorted_pairs ps None lasts h.2 more h.1 h.3
      (sym (ap (λ xs. keys_ascend lasts (xs ++ more)) h.4 ∙ ap (keys_ascend (None ∷ lasts)) (append_assoc h.2 ((map_end, h.1, false) ∷ []) more)) ∙ e) in
      ((inner.0, inner.1), inner.3)
  sorted_item (link_item b cid is) lasts es more h e = (tt, sym (ap (λ xs. keys_ascend lasts (xs ++ more)) h.2) ∙ e)

  sorted_parts : (is : Parts 64) (lasts : LastKeys) (es more : List Event) → PartsEvents is es → keys_ascend lasts (es ++ more) ≡ true → InMapsOfParts AreSorted is × (keys_ascend lasts more ≡ true)
  sorted_parts no_parts lasts es more h e = (tt, sym (ap (λ xs. keys_ascend lasts (xs ++ more)) h) ∙ e)
  sorted_parts (part i is) lasts es more h e =
      let first = sorted_item i lasts h.0 (h.1 ++ more) h.2 (sym (ap (λ xs. keys_ascend lasts (xs ++ more)) h.4 ∙ ap (keys_ascend lasts) (append_assoc h.0 h.1 more)) ∙ e) in
      let rest = sorted_parts is lasts h.1 more h.3 first.1 in
      ((first.0, rest.0), rest.1)

  sorted_pairs : (ps : Pairs 64) (last : Option (List ℕ)) (lasts : LastKeys) (es more : List Event) (m : ℕ) → PairsEvents ps es → keys_ascend (last ∷ lasts) (es ++ (map_end, m, false) ∷ more) ≡ true
      → AreSorted ps × InMapsOfValues AreSorted ps × FirstOf last ps × (keys_ascend lasts more ≡ true)
  sorted_pairs no_pairs None lasts es more m h e = (tt, tt, tt, sym (ap (λ xs. keys_ascend (None ∷ lasts) (xs ++ (map_end, m, false) ∷ more)) h) ∙ e)
  sorted_pairs no_pairs (Some j) lasts es more m h e = (tt, tt, tt, sym (ap (λ xs. keys_ascend (Some j ∷ lasts) (xs ++ (map_end, m, false) ∷ more)) h) ∙ e)
  sorted_pairs (pair key v ps) last lasts es more m h e =
      let s = h.0 in
      let behind = (map_end, m, false) ∷ more in
      let split = and_parts (follows last s) (keys_ascend (Some s ∷ lasts) (h.2 ++ (h.3 ++ behind)))
      (sym (ap (λ xs. keys_ascend (last ∷ lasts) (xs ++ behind)) h.7
      ∙ ap (λ xs. follows last s && keys_ascend (Some s ∷ lasts) xs) (append_assoc h.2 h.3 behind)) ∙ e) in
      let value = sorted_item v (Some s ∷ lasts) h.2 (h.3 ++ behind) h.5 split.1 in
      let rest = sorted_pairs ps (Some s) lasts h.3 more m h.6 value.1 in
      let here : AreSorted (pair (atom_item (text s)) v ps) × FirstOf last (pair (atom_item (text s)) v ps) =
      ((rest.2, rest.0), first_pair last s v ps split.0 (first_of last s ps split.0 rest.2)) in
      let known = subst (λ (k : Item 64). AreSorted (pair k v ps) × FirstOf last (pair k v ps)) (sym h.4) here in
      (known.0, (value.0, rest.1), known.1, rest.3)

mutual
  item_sorted : (i : Item 64) (lasts : LastKeys) (es more : List Event) → EventsOf i es → HasSortedKeys i → keys_ascend lasts more ≡ true → keys_ascend lasts (es ++ more) ≡ true
  item_sorted (atom_item none) lasts es more h s e = ap (λ xs. keys_ascend lasts (xs ++ more)) h.1 ∙ e
  item_sorted (atom_item unit) lasts es more h s e = ap (λ xs. keys_ascend lasts (xs ++ more)) h.1 ∙ e
  item_sorted (atom_item unit_struct) lasts es more h s e = ap (λ xs. keys_ascend lasts (xs ++ more)) h.1 ∙ e
  item_sorted (atom_item (boolean b)) lasts es more h s e = ap (λ xs. keys_ascend lasts (xs ++ more)) h.1 ∙ e
  item_sorted (atom_item (integer n)) lasts es more h s e = ap (λ xs. keys_ascend lasts (xs ++ more)) h.1 ∙ e
  item_sorted (atom_item (unsigned n)) lasts es more h s e = ap (λ xs. keys_ascend lasts (xs ++ more)) h.1 ∙ e
  item_sorted (atom_item (character c)) lasts es more h s e = ap (λ xs. keys_ascend lasts (xs ++ more)) h.1 ∙ e
  item_sorted (atom_item (text x)) lasts es more h s e = ap (λ xs. keys_ascend lasts (xs ++ more)) h.1 ∙ e
  item_sorted (atom_item (unit_variant x)) lasts es more h s e = ap (λ xs. keys_ascend lasts (xs ++ more)) h.1 ∙ e
  item_sorted (bytes_item b) lasts es more h s e = ap (λ xs. keys_ascend lasts (xs ++ more)) h.1 ∙ e
  item_sorted (some_item i) lasts es more h s e = absurd h
  item_sorted (variant_item name i) lasts es more h s e = absurd h
  item_sorted (list_item is) lasts es more h s e =
      ap (λ xs. keys_ascend lasts (xs ++ more)) h.4 ∙ ap (keys_ascend lasts) (append_assoc h.2 ((seq_end, h.1, false) ∷ []) more)
      ∙ parts_sorted is lasts h.2 ((seq_end, h.1, false) ∷ more) h.3 s e
  item_sorted (map_item ps) lasts es more h s e =
      ap (λ xs. keys_ascend lasts (xs ++ more)) h.4 ∙ ap (keys_ascend (None ∷ lasts)) (append_assoc h.2 ((map_end, h.1, false) ∷ []) more)
      ∙ pairs_sorted ps None lasts h.2 more h.1 h.3 s.0 s.1 tt e
  item_sorted (link_item b cid is) lasts es more h s e = ap (λ xs. keys_ascend lasts (xs ++ more)) h.2 ∙ e

  parts_sorted : (is : Parts 64) (lasts : LastKeys) (es more : List Event) → PartsEvents is es → InMapsOfParts AreSorted is → keys_ascend lasts more ≡ true → keys_ascend lasts (es ++ more) ≡ true
  parts_sorted no_parts lasts es more h s e = ap (λ xs. keys_ascend lasts (xs ++ more)) h ∙ e
  parts_sorted (part i is) lasts es more h s e =
      ap (λ xs. keys_ascend lasts (xs ++ more)) h.4 ∙ ap (keys_ascend lasts) (append_assoc h.0 h.1 more)
      ∙ item_sorted i lasts h.0 (h.1 ++ more) h.2 s.0 (parts_sorted is lasts h.1 more h.3 s.1 e)

  pairs_sorted : (ps : Pairs 64) (last : Option (List ℕ)) (lasts : LastKeys) (es more : List Event) (m : ℕ) → PairsEvents ps es → AreSorted ps → InMapsOfValues AreSorted ps → FirstOf last ps
      → keys_ascend lasts more ≡ true → keys_ascend (last ∷ lasts) (es ++ (map_end, m, false) ∷ more) ≡ true
  pairs_sorted no_pairs last lasts es more m h s vs f e = ap (λ xs. keys_ascend (last ∷ lasts) (xs ++ (map_end, m, false) ∷ more)) h ∙ e
  pairs_sorted (pair key v ps) last lasts es more m h s vs f e =
      let x = h.0 in
      let behind = (map_end, m, false) ∷ more in
      let known = subst (λ (k : Item 64). AreSorted (pair k v ps) × FirstOf last (pair k v ps)) h.4 (s, f) in
      ap (λ xs. keys_ascend (last ∷ lasts) (xs ++ behind)) h.7
      ∙ ap (λ xs. follows last x && keys_ascend (Some x ∷ lasts) xs) (append_assoc h.2 h.3 behind)
      ∙ and_from (follows last x) (keys_ascend (Some x ∷ lasts) (h.2 ++ (h.3 ++ behind))) (follows_first last x v ps known.1)
      (item_sorted v (Some x ∷ lasts) h.2 (h.3 ++ behind) h.5 vs.0 (pairs_sorted ps (Some x) lasts h.3 more m h.6 known.0.1 vs.1 known.0.0 e))

module _ (laws : CidLaws) (floats : Bool) (i : Item 64) (t : Tree) (block : List ℕ) (encodes : EncodesIn floats i block) (has : tree_of_item i ≡ Some t) where
  -- the keys of a block ascend exactly where those of its item do
  pub block_sorted : (sorted : Bool) → is_sorted floats block ≡ Some sorted → (sorted ≡ true) ↔ HasSortedKeys i
  unfolding is_sorted
  block_sorted sorted e =
      let over = over_block_in laws floats i t block encodes has in
      let events = ap (λ (x : Trace). x.events) over.is in
      let found : Some (keys_ascend [] (over.events ++ [])) ≡ Some sorted =
      ap (λ xs. Some (keys_ascend [] xs)) (sym events) ∙ ap (λ o. unless_error o (Some (keys_ascend [] (trace_of floats block).events))) (sym (ap (λ (x : Trace). x.error) over.is)) ∙ e in
      let same : keys_ascend [] (over.events ++ []) ≡ sorted = cc in (
        λ yes. (sorted_item i [] over.events [] over.of (same ∙ yes)).0,
        λ s. sym same ∙ item_sorted i [] over.events [] over.of s refl,
      )
