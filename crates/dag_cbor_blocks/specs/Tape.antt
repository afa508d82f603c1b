-- The tape of a block of DAG-CBOR with floats: an entry for every value and key, in the order of
-- the bytes. An entry has a number or the offset of the content.
use Rattle.std.specs.Prelude.{◌≡◌, ◌⊎◌, ◌+◌, ◌^◌, ◌<◌, nat_lt, ◌&&◌, ℕ, pos, negsuc, suc, Bool, true, false, List, [], ◌∷◌, ◌++◌, length, Some, None, Result, Ok, Err}
use Rattle.std.specs.Str.{IsUtf8}
use Rattle.ipld_tree.specs.Tree.{Tree}
use Rattle.ipld_tree.specs.declared.limits.Limits.{Limits}
use Rattle.ipld_tokens.specs.Token.{Atom, none, boolean, integer, text}
use Rattle.ipld_tokens.specs.Item.{Item, atom_item, bytes_item, some_item, variant_item, list_item, map_item, link_item, Parts, no_parts, part, Pairs, no_pairs, pair}
use Rattle.ipld_tokens.specs.ItemTree.{tree_of_item}
use Rattle.dag_cbor_format.specs.declared.major.Major.TheVariants.{Unsigned, Negative, Bytes, Text, List as Array, Map, Tag, Simple}
use Rattle.dag_cbor_format.specs.Head.{head}
use Rattle.dag_cbor_format.specs.Encoding.{part_count, pair_count}
use Rattle.dag_cbor_format.specs.Floats.{IsFloat}
use Rattle.dag_cbor_format.specs.declared.error.CborError.TheVariants.{Memory}
use Rattle.dag_cbor_blocks.specs.Counting.{limit_passed}
use Rattle.dag_cbor_blocks.specs.Within.{StopsAt, IsLimit}
use Rattle.dag_cbor_blocks.specs.declared.block_error.BlockErrorKind.TheVariants.{Cbor}
use Rattle.dag_cbor_blocks.specs.declared.tape.TapeEntry.{TapeEntry}
use Rattle.dag_cbor_blocks.specs.declared.tape.TapeError.{TapeError}
use Rattle.dag_cbor_blocks.specs.declared.tape.TapeError.TheVariants.{Block, TooLong}

-- an entry of a kind, with a length and a value
abbrev pub entry : ℕ → ℕ → ℕ → TapeEntry
entry kind len value = record { kind = kind; len = len; value = value }

-- True if the bytes at the offset encode a text string, and `e` is its entry of the kind: the
-- length of its bytes, and the offset of the first.
pub record DescribesText (kind : ℕ) (s : List ℕ) (at : ℕ) (bytes : List ℕ) (e : TapeEntry) : Type 0 where
  pub utf8 : IsUtf8 s
  pub fits : length s < 2 ^ 64
  pub is : bytes ≡ head Text (length s) ++ s
  pub entry_is : e ≡ entry kind (length s) (at + length (head Text (length s)))

-- True if the bytes at the offset encode a scalar, and `e` is its entry. The kinds 0, 1 and 2 are
-- null, false and true. 3 is an integer n and 4 an integer -1 - n, both with n as the value. 5 is a
-- float, with the offset of its eight bytes, and 6 is a text string.
abbrev pub DescribesAtom : Atom → ℕ → List ℕ → TapeEntry → Type 0
DescribesAtom none at bytes e = ((bytes ≡ head Simple 22) × (e ≡ entry 0 0 0)) ⊎ (IsFloat bytes × (e ≡ entry 5 8 (at + 1)))
DescribesAtom (boolean false) at bytes e = (bytes ≡ head Simple 20) × (e ≡ entry 1 0 0)
DescribesAtom (boolean true) at bytes e = (bytes ≡ head Simple 21) × (e ≡ entry 2 0 0)
DescribesAtom (integer (pos n)) at bytes e = (n < 2 ^ 64) × (bytes ≡ head Unsigned n) × (e ≡ entry 3 0 n)
DescribesAtom (integer (negsuc n)) at bytes e = (n < 2 ^ 64) × (bytes ≡ head Negative n) × (e ≡ entry 4 0 n)
DescribesAtom (text s) at bytes e = DescribesText 6 s at bytes e
DescribesAtom _ at bytes e = ⊥

-- True if the bytes at the offset encode a key, a text string, and `e` is its entry.
abbrev pub DescribesKey : Item 64 → ℕ → List ℕ → TapeEntry → Type 0
DescribesKey (atom_item (text s)) at bytes e = DescribesText 11 s at bytes e
DescribesKey _ at bytes e = ⊥

abbrev mutual
  -- True if the bytes at the offset encode the item, any null in it may be a float, and these are
  -- its entries. The entry of a byte string (7) or a link (8) has the offset and the length of the
  -- bytes, for a link those of its CID. The entry of a list (9) or a map (10) has the number of
  -- entries that it spans, itself included, and the number of its items or pairs.
  pub Describes : Item 64 → ℕ → List ℕ → List TapeEntry → Type 0
  Describes (atom_item a) at bytes es = (e : TapeEntry) × DescribesAtom a at bytes e × (es ≡ e ∷ [])
  Describes (bytes_item b) at bytes es = (length b < 2 ^ 64) × (bytes ≡ head Bytes (length b) ++ b) × (es ≡ entry 7 (length b) (at + length (head Bytes (length b))) ∷ [])
  Describes (some_item i) at bytes es = ⊥
  Describes (variant_item name i) at bytes es = ⊥
  Describes (list_item is) at bytes es =
      (part_count is < 2 ^ 64) × (content : List ℕ) × (inner : List TapeEntry) × DescribeParts is (at + length (head Array (part_count is))) content inner
      × (bytes ≡ head Array (part_count is) ++ content) × (es ≡ entry 9 (suc (length inner)) (part_count is) ∷ inner)
  Describes (map_item ps) at bytes es =
      (pair_count ps < 2 ^ 64) × (content : List ℕ) × (inner : List TapeEntry) × DescribePairs ps (at + length (head Map (pair_count ps))) content inner
      × (bytes ≡ head Map (pair_count ps) ++ content) × (es ≡ entry 10 (suc (length inner)) (pair_count ps) ∷ inner)
  Describes (link_item encoded cid is) at bytes es =
      (suc (length encoded) < 2 ^ 64) × (bytes ≡ head Tag 42 ++ (head Bytes (suc (length encoded)) ++ 0 ∷ encoded))
      × (es ≡ entry 8 (length encoded) (at + length (head Tag 42) + length (head Bytes (suc (length encoded))) + 1) ∷ [])

  -- True if the bytes at the offset encode the items of a list, one after another, and these are
  -- their entries.
  pub DescribeParts : Parts 64 → ℕ → List ℕ → List TapeEntry → Type 0
  DescribeParts no_parts at bytes es = (bytes ≡ []) × (es ≡ [])
  DescribeParts (part i is) at bytes es =
      (first : List ℕ) × (more : List ℕ) × (here : List TapeEntry) × (others : List TapeEntry) × Describes i at first here × DescribeParts is (at + length first) more others
      × (bytes ≡ first ++ more) × (es ≡ here ++ others)

  -- True if the bytes at the offset encode the pairs of a map, keys and values alternating, and
  -- these are their entries.
  pub DescribePairs : Pairs 64 → ℕ → List ℕ → List TapeEntry → Type 0
  DescribePairs no_pairs at bytes es = (bytes ≡ []) × (es ≡ [])
  DescribePairs (pair k v ps) at bytes es =
      (name : List ℕ) × (first : List ℕ) × (more : List ℕ) × (e : TapeEntry) × (here : List TapeEntry) × (others : List TapeEntry)
      × DescribesKey k at name e × Describes v (at + length name) first here × DescribePairs ps (at + length name + length first) more others
      × (bytes ≡ name ++ (first ++ more)) × (es ≡ e ∷ (here ++ others))

-- True if the bytes are a block, one item without a repeated key, and these are its entries.
abbrev pub IsTapeOf : List TapeEntry → List ℕ → Type 0
IsTapeOf es block = (i : Item 64) × (t : Tree) × (tree_of_item i ≡ Some t) × Describes i 0 block es

-- whether the lengths of all entries have 32 bits
abbrev pub all_short : List TapeEntry → Bool
all_short [] = true
all_short (e ∷ es) = nat_lt e.len (2 ^ 32) && all_short es

-- True if the bytes are a block that passes no limit, and these are its entries, whose lengths have
-- 32 bits. The error `TooLong` means that a length has more. Other errors are the reason why the
-- bytes are rejected, with its offset.
abbrev pub GivesTape : {A : Type 0} → Limits → List ℕ → (A → List TapeEntry) → Result A TapeError → Type 0
GivesTape limits block view (Ok x) = IsTapeOf (view x) block × (all_short (view x) ≡ true) × (limit_passed true limits block ≡ None)
GivesTape limits block view (Err TooLong) = (es : List TapeEntry) × IsTapeOf es block × (all_short es ≡ false) × (limit_passed true limits block ≡ None)
GivesTape limits block view (Err (Block error)) = StopsAt true limits block error.kind error.offset

-- True if these entries are returned. An error means that one of them is too long, a limit was
-- passed, or an allocation failed.
abbrev pub ReturnsTape : {A : Type 0} → List TapeEntry → (A → List TapeEntry) → Result A TapeError → Type 0
ReturnsTape es view (Ok x) = view x ≡ es
ReturnsTape es view (Err TooLong) = all_short es ≡ false
ReturnsTape es view (Err (Block error)) = IsLimit error.kind

-- True if an error is a failed allocation or an entry that is too long, the only errors for a block
-- within the limits.
abbrev pub OnlyMemory : {A : Type 0} → Result A TapeError → Type 0
OnlyMemory (Ok x) = Unit {0}
OnlyMemory (Err TooLong) = Unit {0}
OnlyMemory (Err (Block error)) = error.kind ≡ Cbor Memory
