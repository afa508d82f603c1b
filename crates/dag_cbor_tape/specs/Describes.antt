-- The item that a tape over data describes, and the bytes of the item with its pairs in the order
-- of the tape (RFC 8949, section 4.2, and the DAG-CBOR specification, "Strictness").
use Rattle.std.specs.Prelude.{◌≡◌, ◌⊎◌, ◌^◌, ◌<◌, ℕ, pos, negsuc, suc, true, false, List, [], ◌∷◌, ◌++◌, length, Some}
use Rattle.std.specs.Str.{IsUtf8}
use Rattle.ipld_tokens.specs.Token.{Atom, none, boolean, integer, text}
use Rattle.ipld_tokens.specs.Item.{Item, atom_item, bytes_item, some_item, variant_item, list_item, map_item, link_item, Parts, no_parts, part, Pairs, no_pairs, pair}
use Rattle.dag_cbor_format.specs.declared.major.Major.TheVariants.{Unsigned, Negative, Bytes, Text, List as Array, Map, Tag, Simple}
use Rattle.dag_cbor_format.specs.Head.{head}
use Rattle.dag_cbor_format.specs.Encoding.{part_count, pair_count}
use Rattle.dag_cbor_format.specs.Floats.{IsFloat}
use Rattle.dag_cbor_format.specs.Reading.{among, and_key}
use Rattle.dag_cbor_blocks.specs.Tape.{entry}
use Rattle.dag_cbor_blocks.specs.declared.tape.TapeEntry.{TapeEntry}
use Rattle.dag_cbor_tape.specs.Entry.{content_of}

-- True if the entry has this kind, and refers to this content in the data.
pub record Refers (over : List ℕ) (kind : ℕ) (e : TapeEntry) (content : List ℕ) : Type 0 where
  pub kind_is : e.kind ≡ kind
  pub content_is : content_of over e ≡ Some content

-- True if the entry has this kind and refers to this text string, and the bytes encode the string.
pub record DescribesText (over : List ℕ) (kind : ℕ) (s : List ℕ) (e : TapeEntry) (bytes : List ℕ) : Type 0 where
  pub refers : Refers over kind e s
  pub utf8 : IsUtf8 s
  pub is : bytes ≡ head Text (length s) ++ s

-- True if the entry refers to the eight bytes of a float in the data, and the bytes encode the
-- float.
pub record DescribesFloat (over : List ℕ) (e : TapeEntry) (bytes : List ℕ) : Type 0 where
  pub content : List ℕ
  pub refers : Refers over 5 e content
  pub wide : e.len ≡ 8
  pub is : bytes ≡ 251 ∷ content
  pub float : IsFloat bytes

-- True if the entry is that of the scalar, and the bytes encode it. The entry of a null may be that
-- of a float, with the bytes of the float.
abbrev pub DescribesAtom : List ℕ → Atom → TapeEntry → List ℕ → Type 0
DescribesAtom over none e bytes = ((e ≡ entry 0 0 0) × (bytes ≡ head Simple 22)) ⊎ DescribesFloat over e bytes
DescribesAtom over (boolean false) e bytes = (e ≡ entry 1 0 0) × (bytes ≡ head Simple 20)
DescribesAtom over (boolean true) e bytes = (e ≡ entry 2 0 0) × (bytes ≡ head Simple 21)
DescribesAtom over (integer (pos n)) e bytes = (e ≡ entry 3 0 n) × (bytes ≡ head Unsigned n)
DescribesAtom over (integer (negsuc n)) e bytes = (e ≡ entry 4 0 n) × (bytes ≡ head Negative n)
DescribesAtom over (text s) e bytes = DescribesText over 6 s e bytes
DescribesAtom over _ e bytes = ⊥

-- True if the entry is that of a key, the bytes encode it, and it is a text string that is not one
-- of the keys before it.
abbrev pub DescribesKey : List ℕ → List (List ℕ) → Item 64 → List ℕ → TapeEntry → List ℕ → Type 0
DescribesKey over seen (atom_item (text s)) k e bytes = DescribesText over 11 s e bytes × (k ≡ s) × (among s seen ≡ false)
DescribesKey over seen _ k e bytes = ⊥

abbrev mutual
  -- True if the entries describe the item, and the bytes are those of the item, with its pairs in
  -- the order of the entries. A null of the item may be a float in the entries and the bytes. The
  -- content of a string, bytes, a link, a float and a key is cut out of the contents `over`. A list
  -- and a map span the entries of their contents, and no key of a map is one of those before it
  -- (RFC 8949, section 4.2; the DAG-CBOR specification, "Strictness").
  pub Describes : List ℕ → Item 64 → List TapeEntry → List ℕ → Type 0
  Describes over (atom_item a) es bytes = (e : TapeEntry) × DescribesAtom over a e bytes × (es ≡ e ∷ [])
  Describes over (bytes_item b) es bytes = (e : TapeEntry) × Refers over 7 e b × (bytes ≡ head Bytes (length b) ++ b) × (es ≡ e ∷ [])
  Describes over (some_item i) es bytes = ⊥
  Describes over (variant_item name i) es bytes = ⊥
  Describes over (list_item is) es bytes =
      (inner : List TapeEntry) × (content : List ℕ) × DescribeParts over is inner content
      × (es ≡ entry 9 (suc (length inner)) (part_count is) ∷ inner) × (bytes ≡ head Array (part_count is) ++ content)
  Describes over (map_item ps) es bytes =
      (inner : List TapeEntry) × (content : List ℕ) × DescribePairs over [] ps inner content
      × (es ≡ entry 10 (suc (length inner)) (pair_count ps) ∷ inner) × (bytes ≡ head Map (pair_count ps) ++ content)
  Describes over (link_item encoded cid is) es bytes =
      (e : TapeEntry) × Refers over 8 e encoded × (bytes ≡ head Tag 42 ++ (head Bytes (suc (length encoded)) ++ 0 ∷ encoded)) × (es ≡ e ∷ [])

  -- True if the entries and the bytes are those of the items of a list, one after another.
  pub DescribeParts : List ℕ → Parts 64 → List TapeEntry → List ℕ → Type 0
  DescribeParts over no_parts es bytes = (es ≡ []) × (bytes ≡ [])
  DescribeParts over (part i is) es bytes =
      (here : List TapeEntry) × (others : List TapeEntry) × (first : List ℕ) × (more : List ℕ) × Describes over i here first × DescribeParts over is others more
      × (es ≡ here ++ others) × (bytes ≡ first ++ more)

  -- True if the entries and the bytes are those of the pairs of a map, keys and values alternating,
  -- and no key is one of those before it.
  pub DescribePairs : List ℕ → List (List ℕ) → Pairs 64 → List TapeEntry → List ℕ → Type 0
  DescribePairs over seen no_pairs es bytes = (es ≡ []) × (bytes ≡ [])
  DescribePairs over seen (pair k v ps) es bytes =
      (key : List ℕ) × (e : TapeEntry) × (here : List TapeEntry) × (others : List TapeEntry) × (name : List ℕ) × (first : List ℕ) × (more : List ℕ)
      × DescribesKey over seen k key e name × Describes over v here first × DescribePairs over (and_key key seen) ps others more
      × (es ≡ e ∷ (here ++ others)) × (bytes ≡ name ++ (first ++ more))

-- True if the lengths of entries have at most 32 bits, and their values at most 64.
abbrev pub AreNarrow : List TapeEntry → Type 0
AreNarrow [] = Unit {0}
AreNarrow (e ∷ es) = (e.len < 2 ^ 32) × (e.value < 2 ^ 64) × AreNarrow es
