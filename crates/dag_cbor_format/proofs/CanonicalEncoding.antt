-- What is written for a tree encodes it, with sorted keys.
use Rattle.std.proofs.Common.{◌≡◌, inl, inr, ℕ, suc, pos, negsuc, ◌^◌, ◌<◌, ◌≤◌, Bool, true, false, List, [], ◌∷◌, ◌++◌, length, Option, Some, None, Ordering, Less, Equal, Greater, is_lt, bytes_eq, refl, sym, ap, subst, ◌∙◌, append_assoc, arith}
use Rattle.std.specs.Prelude.{if◌then◌else◌, nat_lt, option_map}
use Rattle.std.specs.Str.{IsUtf8, is_utf8}
use Rattle.std.specs.Ordering.{match_ordering, ordering_reverse}
use Rattle.std.proofs.lemmas.Bool.{cases_Bool, and_parts, ltb-true}
use Rattle.std.proofs.lemmas.Cmp.{nat_list_cmp_total, tied_itself}
use Rattle.std.proofs.lemmas.Option.{same_Some, none-some}
use Rattle.std.proofs.lemmas.Slice.Eq.{bytes_eq-Decides}
use Rattle.std.proofs.lemmas.Str.{IsUtf8-from_is_utf8}
use Rattle.ipld_cid.specs.Bytes.{bytes_of}
use Rattle.ipld_tree.specs.Tree.{Tree, null, boolean, integer, text, bytes, list, entries, link, Items, no_items, item, Members, no_members, member}
use Rattle.ipld_tree.specs.Put.{put}
use Rattle.ipld_tokens.specs.Token as token
use Rattle.ipld_tokens.specs.Item.{Item, atom_item, bytes_item, list_item, map_item, link_item, Parts, no_parts, part, Pairs, no_pairs, pair}
use Rattle.ipld_tokens.specs.ItemOrder.{InMapsOfParts, InMapsOfValues}
use Rattle.ipld_tokens.specs.ItemTree.{tree_of_item, items_of_parts, members_of_pairs, item_before, put_new, has_key}
use Rattle.ipld_tokens.specs.LinkBytes.{is_valid}
use Rattle.dag_cbor_format.specs.declared.major.Major.{Major}
use Rattle.dag_cbor_format.specs.declared.major.Major.TheVariants.{Bytes, Text, List as Array, Map, Tag}
use Rattle.dag_cbor_format.specs.Head.{head}
use Rattle.dag_cbor_format.specs.Encoding.{part_count, pair_count, encoding, parts_encoding, pairs_encoding, HaveEncodings, PairsHaveEncodings, EncodesItem, EncodesTree}
use Rattle.dag_cbor_format.specs.SortedKeys.{IsFirst, HasSortedKeys, AreSorted}
use Rattle.dag_cbor_format.proofs.KeyOrder.{first_le, later_le, goes_from}
use Rattle.dag_cbor_format.specs.Canonical.{goes_first, placed, is_before, precedes, headed, written_text, written_bytes, joined, item_count, Written, written_pairs, written_with, written_map, canonical, canonical_items, canonical_members}
use Rattle.ipld_tokens.proofs.LinkReading.{valid_from-true}
use Rattle.ipld_tokens.proofs.Putting.{order, or, has_key-put}
use Rattle.dag_cbor_format.proofs.ItemHeaderLaws.{CidLaws}
use Rattle.dag_cbor_format.proofs.Keys.{same_key, or_either, or_true}

-- ---- parts

pub joined_is : (o p : Option (List ℕ)) (c : List ℕ) → joined o p ≡ Some c
    → (a : List ℕ) × (b : List ℕ) × (o ≡ Some a) × (p ≡ Some b) × (c ≡ a ++ b)
joined_is None p c e = absurd (cc e)
joined_is (Some a) None c e = absurd (cc e)
joined_is (Some a) (Some b) c e = (a, b, refl, refl, (let f : c ≡ a ++ b = cc e in f))

pub if_some : {A : Type 0} (c : Bool) (o : Option A) (y : A) → (if c then o else None) ≡ Some y → (c ≡ true) × (o ≡ Some y)
if_some true o y e = (refl, e)
if_some false o y e = absurd (none-some y e)

headed_some : (major : Major) (n : ℕ) (c b : List ℕ) → headed major n (Some c) ≡ Some b → (n < 2 ^ 64) × (b ≡ head major n ++ c)
headed_some major n c b e =
    let p = if_some (nat_lt n (2 ^ 64)) (Some (head major n ++ c)) b e in
    (ltb-true n (2 ^ 64) p.0, sym (same_Some (head major n ++ c) b p.1))

pub headed_is : (major : Major) (n : ℕ) (o : Option (List ℕ)) (b : List ℕ) → headed major n o ≡ Some b
    → (c : List ℕ) × (o ≡ Some c) × (n < 2 ^ 64) × (b ≡ head major n ++ c)
headed_is major n None b e = absurd (none-some b e)
headed_is major n (Some c) b e = let p = headed_some major n c b e in (c, refl, p.0, p.1)

pub text_is : (s b : List ℕ) → written_text s ≡ Some b → IsUtf8 s × (length s < 2 ^ 64) × (b ≡ head Text (length s) ++ s)
text_is s b e =
    let h = headed_is Text (length s) (if is_utf8 s then Some s else None) b e in
    let u = if_some (is_utf8 s) (Some s) h.0 h.1 in
    (IsUtf8-from_is_utf8 s u.0, h.2, h.3 ∙ ap (λ xs. head Text (length s) ++ xs) (sym (same_Some s h.0 u.1)))

tagged_is : (o : Option (List ℕ)) (b : List ℕ) → option_map (λ x. head Tag 42 ++ x) o ≡ Some b → (c : List ℕ) × (o ≡ Some c) × (b ≡ head Tag 42 ++ c)
tagged_is None b e = absurd (none-some b e)
tagged_is (Some c) b e = (c, refl, sym (same_Some (head Tag 42 ++ c) b e))

pub with_is : (k : List ℕ) (o : Option (List ℕ)) (q : Option Written) (ps : Written) → written_with k o q ≡ Some ps
    → (b : List ℕ) × (qs : Written) × (o ≡ Some b) × (q ≡ Some qs) × (placed k b qs ≡ ps)
with_is k None q ps e = absurd (none-some ps e)
with_is k (Some b) None ps e = absurd (none-some ps e)
with_is k (Some b) (Some qs) ps e = (b, qs, refl, refl, same_Some (placed k b qs) ps e)

map_is : (q : Option Written) (b : List ℕ) → written_map q ≡ Some b → (ps : Written) × (q ≡ Some ps) × (headed Map (length ps) (written_pairs ps) ≡ Some b)
map_is None b e = absurd (none-some b e)
map_is (Some ps) b e = (ps, refl, e)

-- ---- a key before all others

Below : List ℕ → Members → Type 0
Below k ms = (q : List ℕ) → has_key q ms ≡ true → order k q ≡ Less

pub lt_less : (o : Ordering) → is_lt o ≡ true → o ≡ Less
lt_less Less e = refl
lt_less Equal e = absurd cc
lt_less Greater e = absurd cc

below_from : (k : List ℕ) (ms : Members) → precedes k ms ≡ true → Below k ms
unfolding Below
below_from k no_members e q h = absurd cc
below_from k (member j t ms) e q h =
    let parts = and_parts (is_before k j) (precedes k ms) e in
    elim (or_either (bytes_eq q j) (has_key q ms) h) [
      | inl same ↦ ap (order k) ((bytes_eq-Decides q j).0 same) ∙ lt_less (order k j) parts.0
      | inr more ↦ below_from k ms parts.1 q more
    ]

not_below_itself : (k : List ℕ) → order k k ≡ Less → ⊥
not_below_itself k e = let x : Less ≡ Equal = sym e ∙ tied_itself nat_list_cmp_total k in cc

absent : (k : List ℕ) (ms : Members) → Below k ms → has_key k ms ≡ false
unfolding Below
absent k ms below =
    elim (cases_Bool (has_key k ms)) [
      | inl h ↦ absurd (not_below_itself k (below k h))
      | inr h ↦ h
    ]

own_key : (j : List ℕ) (b : Bool) → or (bytes_eq j j) b ≡ true
own_key j b = ap (λ a. or a b) (same_key j)

put_front : (k : List ℕ) (t : Tree) (ms : Members) → Below k ms → put k t ms ≡ member k t ms
unfolding Below
put_front k t no_members below = refl
put_front k t (member j u ms) below =
    ap (λ o. match_ordering o (member k t (member j u ms)) (member j t ms) (member j u (put k t ms))) (below j (own_key j (has_key j ms)))

put_behind : (k j : List ℕ) (t u : Tree) (ms : Members) → order k j ≡ Less → put j u (member k t ms) ≡ member k t (put j u ms)
put_behind k j t u ms less =
    let greater : order j k ≡ Greater = nat_list_cmp_total.antisymm j k ∙ ap ordering_reverse less in
    ap (λ o. match_ordering o (member j u (member k t ms)) (member k u ms) (member k t (put j u ms))) greater

not_same : (k j : List ℕ) → order k j ≡ Less → bytes_eq j k ≡ false
not_same k j less =
    elim (cases_Bool (bytes_eq j k)) [
      | inl same ↦ absurd (not_below_itself k (ap (order k) (sym ((bytes_eq-Decides j k).0 same)) ∙ less))
      | inr h ↦ h
    ]

-- the bytes encode an item that is the tree, with sorted keys
abbrev pub EncodesSorted : Tree → List ℕ → Type 0
EncodesSorted t b = (i : Item 64) × EncodesItem i b × HasSortedKeys i × (tree_of_item i ≡ Some t)

-- ---- values under their keys, one put into the map after the other, the last first

abbrev Stands : Written → Members → Type 0
Stands [] ms = ms ≡ no_members
Stands (e ∷ ps) ms =
    (t : Tree) × (more : Members) × EncodesSorted t e.1 × (has_key e.0 more ≡ false) × (ms ≡ put e.0 t more) × Stands ps more

below_more : (k j : List ℕ) (u : Tree) (more ms : Members) → ms ≡ put j u more → Below k ms → Below k more
unfolding Below
below_more k j u more ms same below q h =
    below q (ap (has_key q) same ∙ has_key-put q j u more ∙ ap (or (bytes_eq q j)) h ∙ or_true (bytes_eq q j))

below_put : (k j : List ℕ) (u : Tree) (more ms : Members) → ms ≡ put j u more → Below k ms → order k j ≡ Less
unfolding Below
below_put k j u more ms same below = below j (ap (has_key j) same ∙ has_key-put j j u more ∙ own_key j (has_key j more))

placed_stands : (k b : List ℕ) (t : Tree) (ps : Written) (ms : Members) → Below k ms → EncodesSorted t b → Stands ps ms → Stands (placed k b ps) (member k t ms)
placed_stands k b t [] ms below encodes s = (t, no_members, encodes, refl, ap (member k t) s, refl)
placed_stands k b t (e ∷ ps) ms below encodes s =
    elim (cases_Bool (goes_first e.0 k)) [
      | inr here ↦
          subst (λ c. Stands (if c then e ∷ placed k b ps else (k, b) ∷ (e ∷ ps)) (member k t ms)) (sym here)
          (t, ms, encodes, absent k ms below, sym (put_front k t ms below), s)
      | inl first ↦
          let u = s.0 in
          let more = s.1 in
          let less = below_put k e.0 u more ms s.4 below in
          subst (λ c. Stands (if c then e ∷ placed k b ps else (k, b) ∷ (e ∷ ps)) (member k t ms)) (sym first) (
            u,
            member k t more,
            s.2,
            ap (λ a. or a (has_key e.0 more)) (not_same k e.0 less) ∙ s.3,
            ap (member k t) s.4 ∙ sym (put_behind k e.0 t u more less),
            placed_stands k b t ps more (below_more k e.0 u more ms s.4 below) encodes s.5,
          )
    ]

-- ---- keys in their order

-- the key goes before each of these
abbrev pub AllAfter : List ℕ → Written → Type 0
AllAfter k [] = Unit {0}
AllAfter k (e ∷ ps) = (goes_first k e.0 ≡ true) × AllAfter k ps

abbrev InOrder : Written → Type 0
InOrder [] = Unit {0}
InOrder (e ∷ ps) = AllAfter e.0 ps × InOrder ps

abbrev AllAbove : List ℕ → Written → Type 0
AllAbove k [] = Unit {0}
AllAbove k (e ∷ ps) = (is_before k e.0 ≡ true) × AllAbove k ps

above_placed : (k j c : List ℕ) (ps : Written) → is_before k j ≡ true → AllAbove k ps → AllAbove k (placed j c ps)
above_placed k j c [] h hs = (h, tt)
above_placed k j c (e ∷ ps) h hs =
    elim (cases_Bool (goes_first e.0 j)) [
      | inl first ↦ subst (λ b. AllAbove k (if b then e ∷ placed j c ps else (j, c) ∷ (e ∷ ps))) (sym first) (hs.0, above_placed k j c ps h hs.1)
      | inr here ↦ subst (λ b. AllAbove k (if b then e ∷ placed j c ps else (j, c) ∷ (e ∷ ps))) (sym here) (h, hs)
    ]

pub after_placed : (k j c : List ℕ) (ps : Written) → goes_first k j ≡ true → AllAfter k ps → AllAfter k (placed j c ps)
after_placed k j c [] h hs = (h, tt)
after_placed k j c (e ∷ ps) h hs =
    elim (cases_Bool (goes_first e.0 j)) [
      | inl first ↦ subst (λ b. AllAfter k (if b then e ∷ placed j c ps else (j, c) ∷ (e ∷ ps))) (sym first) (hs.0, after_placed k j c ps h hs.1)
      | inr here ↦ subst (λ b. AllAfter k (if b then e ∷ placed j c ps else (j, c) ∷ (e ∷ ps))) (sym here) (h, hs)
    ]

-- keys behind one that is no shorter than k
all_after : (k j : List ℕ) (ps : Written) → length k ≤ length j → AllAbove k ps → AllAfter j ps → AllAfter k ps
all_after k j [] le hs later = tt
all_after k j (e ∷ ps) le hs later =
    let longer = first_le j e.0 later.0 in
    (goes_from k e.0 hs.0 (omega arith), all_after k j ps le hs.1 later.1)

placed_in_order : (k b : List ℕ) (ps : Written) → AllAbove k ps → InOrder ps → InOrder (placed k b ps)
placed_in_order k b [] hs ordered = (tt, tt)
placed_in_order k b (e ∷ ps) hs ordered =
    elim (cases_Bool (goes_first e.0 k)) [
      | inl first ↦
          subst (λ c. InOrder (if c then e ∷ placed k b ps else (k, b) ∷ (e ∷ ps))) (sym first)
          (after_placed e.0 k b ps first ordered.0, placed_in_order k b ps hs.1 ordered.1)
      | inr here ↦
          let le = later_le e.0 k here in
          subst (λ c. InOrder (if c then e ∷ placed k b ps else (k, b) ∷ (e ∷ ps))) (sym here)
          ((goes_from k e.0 hs.0 le, all_after k e.0 ps le hs.1 ordered.0), ordered)
    ]

members_above : (k : List ℕ) (ms : Members) (ps : Written) → precedes k ms ≡ true → canonical_members ms ≡ Some ps → AllAbove k ps
members_above k no_members ps h e = subst (AllAbove k) (same_Some [] ps e) tt
members_above k (member j t ms) ps h e =
    let parts = and_parts (is_before k j) (precedes k ms) h in
    let p = if_some (precedes j ms) _ ps e in
    let w = with_is j (canonical t) (canonical_members ms) ps p.1 in
    subst (AllAbove k) w.4 (above_placed k j w.0 w.1 parts.0 (members_above k ms w.1 parts.1 w.3))

members_in_order : (ms : Members) (ps : Written) → canonical_members ms ≡ Some ps → InOrder ps
members_in_order no_members ps e = subst InOrder (same_Some [] ps e) tt
members_in_order (member k t ms) ps e =
    let p = if_some (precedes k ms) _ ps e in
    let w = with_is k (canonical t) (canonical_members ms) ps p.1 in
    subst InOrder w.4 (placed_in_order k w.0 w.1 (members_above k ms w.1 p.0 w.3) (members_in_order ms w.1 w.3))

-- the pairs of an item
record Pairing (ps : Written) (c : List ℕ) (ms : Members) : Type 0 where
  pairs : Pairs 64
  have : PairsHaveEncodings pairs
  is : c ≡ pairs_encoding pairs
  members : members_of_pairs pairs ≡ Some ms
  count : pair_count pairs ≡ length ps
  first : (k : List ℕ) → AllAfter k ps → IsFirst (Some k) pairs
  sorted : AreSorted pairs
  values : InMapsOfValues AreSorted pairs

paired : (ps : Written) (c : List ℕ) (ms : Members) → Stands ps ms → InOrder ps → written_pairs ps ≡ Some c → Pairing ps c ms
paired [] c ms s ordered e = record {
  pairs = no_pairs;
  have = tt;
  is = sym (same_Some [] c e);
  members = ap Some (sym s);
  count = refl;
  first = λ k after. tt;
  sorted = tt;
  values = tt;
}
paired (e ∷ ps) c ms s ordered w =
    let j = joined_is (joined (written_text e.0) (Some e.1)) (written_pairs ps) c w in
    let h = joined_is (written_text e.0) (Some e.1) j.0 j.2 in
    let key = text_is e.0 h.0 h.2 in
    let t = s.0 in
    let v = s.2.0 in
    let more = paired ps j.1 s.1 s.5 ordered.1 j.3 in
    record {
      pairs = pair (atom_item (token.text e.0)) v more.pairs;
      have = ((key.0, key.1), s.2.1.0, more.have);
      is = j.4 ∙ ap (λ xs. xs ++ j.1) (h.4 ∙ ap (λ xs. xs ++ h.1) key.2 ∙ ap (λ xs. (head Text (length e.0) ++ e.0) ++ xs) (sym (same_Some e.1 h.1 h.3) ∙ s.2.1.1))
          ∙ append_assoc (head Text (length e.0) ++ e.0) (encoding v) j.1
          ∙ ap (λ xs. (head Text (length e.0) ++ e.0) ++ (encoding v ++ xs)) more.is;
      members = ap (λ o. put_new (Some e.0) o (members_of_pairs more.pairs)) s.2.3 ∙ ap (put_new (Some e.0) (Some t)) more.members
          ∙ ap (λ b. if b then None else Some (put e.0 t s.1)) s.3 ∙ ap Some (sym s.4);
      count = ap suc more.count;
      first = λ k after. (after.0, more.first k after.1);
      sorted = (more.first e.0 ordered.0, more.sorted);
      values = (s.2.2, more.values);
    }

-- the items of a list
record Listing (ts : Items) (c : List ℕ) : Type 0 where
  parts : Parts 64
  have : HaveEncodings parts
  is : c ≡ parts_encoding parts
  items : items_of_parts parts ≡ Some ts
  count : part_count parts ≡ item_count ts
  sorted : InMapsOfParts AreSorted parts

module _ (laws : CidLaws) where
  mutual
    encodes : (t : Tree) (b : List ℕ) → canonical t ≡ Some b → EncodesSorted t b
    encodes null b e = (atom_item token.none, (tt, sym (same_Some _ b e)), tt, refl)
    encodes (boolean false) b e = (atom_item (token.boolean false), (tt, sym (same_Some _ b e)), tt, refl)
    encodes (boolean true) b e = (atom_item (token.boolean true), (tt, sym (same_Some _ b e)), tt, refl)
    encodes (integer (pos n)) b e =
        let p = if_some (nat_lt n (2 ^ 64)) _ b e in
        (atom_item (token.integer (pos n)), (ltb-true n (2 ^ 64) p.0, sym (same_Some _ b p.1)), tt, refl)
    encodes (integer (negsuc n)) b e =
        let p = if_some (nat_lt n (2 ^ 64)) _ b e in
        (atom_item (token.integer (negsuc n)), (ltb-true n (2 ^ 64) p.0, sym (same_Some _ b p.1)), tt, refl)
    encodes (text s) b e =
        let p = text_is s b e in
        (atom_item (token.text s), ((p.0, p.1), p.2), tt, refl)
    encodes (bytes s) b e =
        let p = headed_some Bytes (length s) s b e in
        (bytes_item s, (p.0, p.1), tt, refl)
    encodes (list ts) b e =
        let h = headed_is Array (item_count ts) (canonical_items ts) b e in
        let l = listed ts h.0 h.1 in (
          list_item l.parts,
          (
            (subst (λ n. n < 2 ^ 64) (sym l.count) h.2, l.have),
            h.3 ∙ ap (λ n. head Array n ++ h.0) (sym l.count) ∙ ap (λ xs. head Array (part_count l.parts) ++ xs) l.is,
          ),
          l.sorted,
          ap (option_map list) l.items,
        )
    encodes (entries ms) b e =
        let m = map_is (canonical_members ms) b e in
        let h = headed_is Map (length m.0) (written_pairs m.0) b m.2 in
        let p = paired m.0 h.0 ms (members_stand ms m.0 m.1) (members_in_order ms m.0 m.1) h.1 in (
          map_item p.pairs,
          (
            (subst (λ n. n < 2 ^ 64) (sym p.count) h.2, p.have),
            h.3 ∙ ap (λ n. head Map n ++ h.0) (sym p.count) ∙ ap (λ xs. head Map (pair_count p.pairs) ++ xs) p.is,
          ),
          (p.sorted, p.values),
          ap (option_map entries) p.members,
        )
    encodes (link cid) b e =
        let p = if_some (is_valid 64 cid) _ b e in
        let g = tagged_is (written_bytes (0 ∷ bytes_of cid)) b p.1 in
        let h = headed_some Bytes (suc (length (bytes_of cid))) (0 ∷ bytes_of cid) g.0 g.1 in
        (link_item (bytes_of cid) cid (laws.encodes cid (valid_from-true 64 cid p.0)), (h.0, g.2 ∙ ap (λ xs. head Tag 42 ++ xs) h.1), tt, refl)

    listed : (ts : Items) (c : List ℕ) → canonical_items ts ≡ Some c → Listing ts c
    listed no_items c e = record { parts = no_parts; have = tt; is = sym (same_Some [] c e); items = refl; count = refl; sorted = tt }
    listed (item t ts) c e =
        let j = joined_is (canonical t) (canonical_items ts) c e in
        let first = encodes t j.0 j.2 in
        let more = listed ts j.1 j.3 in
        record {
          parts = part first.0 more.parts;
          have = (first.1.0, more.have);
          is = j.4 ∙ ap (λ xs. xs ++ j.1) first.1.1 ∙ ap (λ xs. encoding first.0 ++ xs) more.is;
          sorted = (first.2, more.sorted);
          items = ap (λ o. item_before o (items_of_parts more.parts)) first.3 ∙ ap (item_before (Some t)) more.items;
          count = ap suc more.count;
        }

    members_stand : (ms : Members) (ps : Written) → canonical_members ms ≡ Some ps → Stands ps ms
    members_stand no_members ps e = subst (λ x. Stands x no_members) (same_Some [] ps e) refl
    members_stand (member k t ms) ps e =
        let p = if_some (precedes k ms) _ ps e in
        let w = with_is k (canonical t) (canonical_members ms) ps p.1 in
        subst (λ x. Stands x (member k t ms)) w.4
        (placed_stands k w.0 t w.1 ms (below_from k ms p.0) (encodes t w.0 w.2) (members_stand ms w.1 w.3))

  pub writes_encoded : (t : Tree) (block : List ℕ) → canonical t ≡ Some block → EncodesTree t block
  writes_encoded t b e = let s = encodes t b e in (s.0, s.1, s.3)

  pub written_sorted : (t : Tree) (b : List ℕ) → canonical t ≡ Some b → EncodesSorted t b
  written_sorted t b e = encodes t b e
