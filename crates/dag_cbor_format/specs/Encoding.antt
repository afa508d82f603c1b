-- Blocks of DAG-CBOR (RFC 8949, section 3.1, and the DAG-CBOR specification) without floats: the
-- items that have an encoding, the bytes that encode an item, and the tree that they encode.
use Rattle.std.specs.Prelude.{◌≡◌, ℕ, pos, negsuc, suc, ◌^◌, ◌<◌, true, false, List, [], ◌∷◌, ◌++◌, length, Some}
use Rattle.std.specs.Str.{IsUtf8}
use Rattle.ipld_tree.specs.Tree.{Tree}
use Rattle.ipld_tokens.specs.Token.{Atom, none, boolean, integer, text}
use Rattle.ipld_tokens.specs.Item.{Item, atom_item, bytes_item, some_item, variant_item, list_item, map_item, link_item, Parts, no_parts, part, Pairs, no_pairs, pair}
use Rattle.ipld_tokens.specs.ItemTree.{tree_of_item}
use Rattle.dag_cbor_format.specs.declared.major.Major.TheVariants.{Unsigned, Negative, Bytes, Text, List as Array, Map, Tag, Simple}
use Rattle.dag_cbor_format.specs.Head.{head}

-- the number of items of a list
abbrev pub part_count : Parts 64 → ℕ
part_count no_parts = 0
part_count (part i is) = suc (part_count is)

-- the number of pairs of a map
abbrev pub pair_count : Pairs 64 → ℕ
pair_count no_pairs = 0
pair_count (pair key value ps) = suc (pair_count ps)

-- the bytes of a scalar: false, true and null are simple values, -1 - n has the argument n, and a
-- string is its head and its bytes
abbrev pub atom_encoding : Atom → List ℕ
atom_encoding none = head Simple 22
atom_encoding (boolean false) = head Simple 20
atom_encoding (boolean true) = head Simple 21
atom_encoding (integer (pos n)) = head Unsigned n
atom_encoding (integer (negsuc n)) = head Negative n
atom_encoding (text s) = head Text (length s) ++ s
atom_encoding _ = []

abbrev mutual
  -- The bytes of an item, in the order of its pairs. A link is tag 42 before a byte string that has
  -- a zero byte and the CID's bytes (RFC 8949, section 3.1; the DAG-CBOR specification, tag 42).
  pub encoding : Item 64 → List ℕ
  encoding (atom_item a) = atom_encoding a
  encoding (bytes_item b) = head Bytes (length b) ++ b
  encoding (some_item i) = []
  encoding (variant_item name i) = []
  encoding (list_item is) = head Array (part_count is) ++ parts_encoding is
  encoding (map_item ps) = head Map (pair_count ps) ++ pairs_encoding ps
  encoding (link_item encoded cid is) = head Tag 42 ++ (head Bytes (suc (length encoded)) ++ 0 ∷ encoded)

  pub parts_encoding : Parts 64 → List ℕ
  parts_encoding no_parts = []
  parts_encoding (part i is) = encoding i ++ parts_encoding is

  pub pairs_encoding : Pairs 64 → List ℕ
  pairs_encoding no_pairs = []
  pairs_encoding (pair key value ps) = encoding key ++ (encoding value ++ pairs_encoding ps)

-- True if the scalar has an encoding: it is null, a bool, an integer from -2^64 to 2^64 - 1, or a
-- UTF-8 string of fewer than 2^64 bytes.
abbrev pub HasAtom : Atom → Type 0
HasAtom none = Unit {0}
HasAtom (boolean b) = Unit {0}
HasAtom (integer (pos n)) = n < 2 ^ 64
HasAtom (integer (negsuc n)) = n < 2 ^ 64
HasAtom (text s) = IsUtf8 s × (length s < 2 ^ 64)
HasAtom _ = ⊥

-- True if the item can be a key: a UTF-8 string of fewer than 2^64 bytes.
abbrev pub IsKey : Item 64 → Type 0
IsKey (atom_item (text s)) = IsUtf8 s × (length s < 2 ^ 64)
IsKey _ = ⊥

abbrev mutual
  -- True if the item has an encoding: integers are from -2^64 to 2^64 - 1, strings are UTF-8, keys
  -- are strings, and lengths are below 2^64. The item contains no floats, options or variants (RFC
  -- 8949, section 3.1; the DAG-CBOR specification).
  pub HasEncoding : Item 64 → Type 0
  HasEncoding (atom_item a) = HasAtom a
  HasEncoding (bytes_item b) = length b < 2 ^ 64
  HasEncoding (some_item i) = ⊥
  HasEncoding (variant_item name i) = ⊥
  HasEncoding (list_item is) = (part_count is < 2 ^ 64) × HaveEncodings is
  HasEncoding (map_item ps) = (pair_count ps < 2 ^ 64) × PairsHaveEncodings ps
  HasEncoding (link_item encoded cid is) = suc (length encoded) < 2 ^ 64

  pub HaveEncodings : Parts 64 → Type 0
  HaveEncodings no_parts = Unit {0}
  HaveEncodings (part i is) = HasEncoding i × HaveEncodings is

  pub PairsHaveEncodings : Pairs 64 → Type 0
  PairsHaveEncodings no_pairs = Unit {0}
  PairsHaveEncodings (pair key value ps) = IsKey key × HasEncoding value × PairsHaveEncodings ps

-- True if the item has an encoding, and it is `bytes` (RFC 8949, section 3.1; the DAG-CBOR
-- specification, tag 42).
abbrev pub EncodesItem : Item 64 → List ℕ → Type 0
EncodesItem i bytes = HasEncoding i × (bytes ≡ encoding i)

-- True if the bytes encode an item whose tree is `t`, so that no key is twice in a map (the
-- DAG-CBOR specification).
abbrev pub EncodesTree : Tree → List ℕ → Type 0
EncodesTree t bytes = (i : Item 64) × EncodesItem i bytes × (tree_of_item i ≡ Some t)
