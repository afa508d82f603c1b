-- What entries describe is a block of DAG-CBOR, as the format's definitions have it.
use Rattle.std.proofs.Common.{◌≡◌, ℕ, suc, ◌^◌, ◌<◌, pos, negsuc, true, false, List, [], ◌∷◌, ◌++◌, length, Some, inl, inr, refl, sym, ap, subst, ◌∙◌, arith}
use Rattle.ipld_tokens.specs.Token.{Atom, none, unit, unit_struct, boolean, integer, unsigned, character, text, unit_variant}
use Rattle.ipld_tokens.specs.Item.{Item, atom_item, bytes_item, some_item, variant_item, list_item, map_item, link_item, Parts, no_parts, part, Pairs, no_pairs, pair}
use Rattle.dag_cbor_format.specs.Reading.{and_key}
use Rattle.dag_cbor_format.specs.Encoding.{encoding, IsKey, part_count, pair_count}
use Rattle.dag_cbor_format.specs.WithFloats.{EncodesAtom, EncodesIn, EncodeParts, EncodePairs}
use Rattle.dag_cbor_blocks.specs.Tape.{entry}
use Rattle.dag_cbor_blocks.specs.declared.tape.TapeEntry.{TapeEntry}
use Rattle.dag_cbor_tape.specs.Entry.{content_of}
use Rattle.dag_cbor_tape.specs.Describes.{DescribesAtom, DescribesKey, Describes, DescribeParts, DescribePairs, AreNarrow}
use Rattle.dag_cbor_tape.proofs.Entries.{content_length}

pub narrow_left : (xs ys : List TapeEntry) → AreNarrow (xs ++ ys) → AreNarrow xs
narrow_left [] ys n = tt
narrow_left (x ∷ xs) ys n = (n.0, n.1, narrow_left xs ys n.2)

pub narrow_right : (xs ys : List TapeEntry) → AreNarrow (xs ++ ys) → AreNarrow ys
narrow_right [] ys n = n
narrow_right (x ∷ xs) ys n = narrow_right xs ys n.2

-- the first of some entries
pub first_narrow : (e : TapeEntry) (es all : List TapeEntry) → AreNarrow all → all ≡ e ∷ es → (e.len < 2 ^ 32) × (e.value < 2 ^ 64) × AreNarrow es
first_narrow e es all n is = subst AreNarrow is n

short_content : (over : List ℕ) (e : TapeEntry) (es : List TapeEntry) (c : List ℕ) → AreNarrow es → es ≡ e ∷ [] → content_of over e ≡ Some c → length c < 2 ^ 32
short_content over e es c n is content =
    let f = first_narrow e [] es n is in
    let same = content_length over e c content in
    let short = f.0 in subst (λ (x : ℕ). x < 2 ^ 32) (sym same) short

wide_enough : (n : ℕ) → n < 2 ^ 32 → n < 2 ^ 64
wide_enough n h = omega arith

one_more : (n : ℕ) → n < 2 ^ 32 → suc n < 2 ^ 64
one_more n h = omega arith

value_below : (e known : TapeEntry) (es : List TapeEntry) → AreNarrow es → es ≡ e ∷ [] → e ≡ known → known.value < 2 ^ 64
value_below e known es n is same = subst (λ (x : TapeEntry). x.value < 2 ^ 64) same (first_narrow e [] es n is).1

atom_in : (over : List ℕ) (a : Atom) (e : TapeEntry) (es : List TapeEntry) (bytes : List ℕ) → AreNarrow es → es ≡ e ∷ [] → DescribesAtom over a e bytes → EncodesAtom true a bytes
atom_in over none e es bytes n is (inl d) = inl d.1
atom_in over none e es bytes n is (inr d) = inr (refl, d.float)
atom_in over (boolean false) e es bytes n is d = (tt, d.1)
atom_in over (boolean true) e es bytes n is d = (tt, d.1)
atom_in over (integer (pos m)) e es bytes n is d = (value_below e (entry 3 0 m) es n is d.0, d.1)
atom_in over (integer (negsuc m)) e es bytes n is d = (value_below e (entry 4 0 m) es n is d.0, d.1)
atom_in over (text s) e es bytes n is d = ((d.utf8, wide_enough (length s) (short_content over e es s n is d.refers.content_is)), d.is)
atom_in over unit e es bytes n is d = absurd d
atom_in over unit_struct e es bytes n is d = absurd d
atom_in over (unsigned m) e es bytes n is d = absurd d
atom_in over (character m) e es bytes n is d = absurd d
atom_in over (unit_variant s) e es bytes n is d = absurd d

pub key_in_format : (over : List ℕ) (seen : List (List ℕ)) (k : Item 64) (key : List ℕ) (e : TapeEntry) (name : List ℕ) → e.len < 2 ^ 32 → DescribesKey over seen k key e name
    → IsKey k × (name ≡ encoding k)
key_in_format over seen (atom_item (text s)) key e name short d =
    let same = content_length over e s d.0.refers.content_is in
    ((d.0.utf8, wide_enough (length s) (subst (λ (x : ℕ). x < 2 ^ 32) (sym same) short)), d.0.is)
key_in_format over seen _ key e name short d = absurd d

mutual
  pub item_in : (over : List ℕ) (i : Item 64) (es : List TapeEntry) (bytes : List ℕ) → AreNarrow es → Describes over i es bytes → EncodesIn true i bytes
  item_in over (atom_item a) es bytes n d = atom_in over a d.0 es bytes n d.2 d.1
  item_in over (bytes_item b) es bytes n d = (wide_enough (length b) (short_content over d.0 es b n d.3 d.1.content_is), d.2)
  item_in over (some_item i) es bytes n d = absurd d
  item_in over (variant_item name i) es bytes n d = absurd d
  item_in over (list_item is) es bytes n d =
      let f = first_narrow (entry 9 (suc (length d.0)) (part_count is)) d.0 es n d.3 in (f.1, d.1, parts_in over is d.0 d.1 f.2 d.2, d.4)
  item_in over (map_item ps) es bytes n d =
      let f = first_narrow (entry 10 (suc (length d.0)) (pair_count ps)) d.0 es n d.3 in (f.1, d.1, pairs_in over [] ps d.0 d.1 f.2 d.2, d.4)
  item_in over (link_item encoded cid is) es bytes n d = (one_more (length encoded) (short_content over d.0 es encoded n d.3 d.1.content_is), d.2)

  parts_in : (over : List ℕ) (is : Parts 64) (es : List TapeEntry) (bytes : List ℕ) → AreNarrow es → DescribeParts over is es bytes → EncodeParts true is bytes
  parts_in over no_parts es bytes n d = d.1
  parts_in over (part i is) es bytes n d =
      let m = subst AreNarrow d.6 n in
      (d.2, d.3, item_in over i d.0 d.2 (narrow_left d.0 d.1 m) d.4, parts_in over is d.1 d.3 (narrow_right d.0 d.1 m) d.5, d.7)

  pairs_in : (over : List ℕ) (seen : List (List ℕ)) (ps : Pairs 64) (es : List TapeEntry) (bytes : List ℕ) → AreNarrow es → DescribePairs over seen ps es bytes → EncodePairs true ps bytes
  pairs_in over seen no_pairs es bytes n d = d.1
  pairs_in over seen (pair k v ps) es bytes n d =
      let f = first_narrow d.1 (d.2 ++ d.3) es n d.10 in
      let key = key_in_format over seen k d.0 d.1 d.4 f.0 d.7 in (
        d.5,
        d.6,
        key.0,
        item_in over v d.2 d.5 (narrow_left d.2 d.3 f.2) d.8,
        pairs_in over (and_key d.0 seen) ps d.3 d.6 (narrow_right d.2 d.3 f.2) d.9,
        d.11 ∙ ap (λ (x : List ℕ). x ++ (d.5 ++ d.6)) key.1,
      )
