-- The canonical block of the item that a block of DAG-CBOR encodes (RFC 8949, section 4.2.3, and
-- the DAG-CBOR specification, "Strictness"). The pairs of every map are in length-first order of
-- their keys, and everything else is unchanged.
use Rattle.std.specs.Prelude.{◌≡◌, ◌^◌, ◌<◌, ℕ, true, List, [], ◌∷◌, ◌++◌, length, map, Some}
use Rattle.std.specs.List.Sorted.{IsPermutation, IsSortedBy}
use Rattle.ipld_tree.specs.Tree.{Tree}
use Rattle.ipld_tokens.specs.Token.{text}
use Rattle.ipld_tokens.specs.Item.{Item, atom_item, bytes_item, some_item, variant_item, list_item, map_item, link_item, Parts, no_parts, part, Pairs, no_pairs, pair}
use Rattle.ipld_tokens.specs.ItemTree.{tree_of_item}
use Rattle.dag_cbor_format.specs.declared.major.Major.TheVariants.{Text, List as Array, Map}
use Rattle.dag_cbor_format.specs.Head.{head}
use Rattle.dag_cbor_format.specs.Canonical.{goes_first}
use Rattle.dag_cbor_format.specs.Encoding.{part_count, pair_count, IsKey}
use Rattle.dag_cbor_format.specs.WithFloats.{EncodesIn}

-- the bytes of a key, and the encoding of its pair
abbrev pub Keyed : Type 0
Keyed = List ℕ × List ℕ

-- True if no key goes before the one in front of it.
abbrev pub AreInOrder : List (List ℕ) → Type 0
AreInOrder keys = IsSortedBy goes_first keys

-- True if `ordered` are the same pairs, in length-first order of their keys.
pub record IsOrdered (pairs ordered : List Keyed) : Type 0 where
  pub same : IsPermutation pairs ordered
  pub in_order : AreInOrder (map (λ p. p.0) ordered)

-- the encodings of pairs, one after another
abbrev pub all_pairs : List Keyed → List ℕ
all_pairs [] = []
all_pairs (p ∷ ps) = p.1 ++ all_pairs ps

-- True if the item is a key, and is this text string.
abbrev pub HasKey : Item 64 → List ℕ → Type 0
HasKey (atom_item (text s)) key = IsKey (atom_item (text s)) × (s ≡ key)
HasKey _ key = ⊥

abbrev mutual
  -- True if the bytes encode the item, and `written` are these bytes with the pairs of every map in
  -- length-first order of their keys (RFC 8949, section 4.2.3). A null of the item may be a float
  -- in the bytes.
  pub Orders : Item 64 → List ℕ → List ℕ → Type 0
  Orders (atom_item a) bytes written = EncodesIn true (atom_item a) bytes × (written ≡ bytes)
  Orders (bytes_item b) bytes written = EncodesIn true (bytes_item b) bytes × (written ≡ bytes)
  Orders (some_item i) bytes written = ⊥
  Orders (variant_item name i) bytes written = ⊥
  Orders (list_item is) bytes written =
      (part_count is < 2 ^ 64) × (content : List ℕ) × (ordered : List ℕ) × OrderParts is content ordered
      × (bytes ≡ head Array (part_count is) ++ content) × (written ≡ head Array (part_count is) ++ ordered)
  Orders (map_item ps) bytes written =
      (pair_count ps < 2 ^ 64) × (content : List ℕ) × (pairs : List Keyed) × (ordered : List Keyed) × OrderPairs ps content pairs × IsOrdered pairs ordered
      × (bytes ≡ head Map (pair_count ps) ++ content) × (written ≡ head Map (pair_count ps) ++ all_pairs ordered)
  Orders (link_item encoded cid is) bytes written = EncodesIn true (link_item encoded cid is) bytes × (written ≡ bytes)

  -- True if the bytes encode the items of a list, one after another, and `written` are these bytes
  -- with the pairs of every map in order.
  pub OrderParts : Parts 64 → List ℕ → List ℕ → Type 0
  OrderParts no_parts bytes written = (bytes ≡ []) × (written ≡ [])
  OrderParts (part i is) bytes written =
      (first : List ℕ) × (more : List ℕ) × (own : List ℕ) × (others : List ℕ) × Orders i first own × OrderParts is more others
      × (bytes ≡ first ++ more) × (written ≡ own ++ others)

  -- True if the bytes encode the pairs of a map, in this order, and `pairs` are their keys and
  -- their encodings, with the pairs of every map in the values in order.
  pub OrderPairs : Pairs 64 → List ℕ → List Keyed → Type 0
  OrderPairs no_pairs bytes pairs = (bytes ≡ []) × (pairs ≡ [])
  OrderPairs (pair k v ps) bytes pairs =
      (key : List ℕ) × (first : List ℕ) × (more : List ℕ) × (own : List ℕ) × (others : List Keyed) × HasKey k key × Orders v first own × OrderPairs ps more others
      × (bytes ≡ (head Text (length key) ++ key) ++ (first ++ more)) × (pairs ≡ (key, (head Text (length key) ++ key) ++ own) ∷ others)

-- True if the bytes are a block, one item without a repeated key, and `written` is its canonical
-- block.
abbrev pub IsCanonicalOf : List ℕ → List ℕ → Type 0
IsCanonicalOf block written = (i : Item 64) × (t : Tree) × (tree_of_item i ≡ Some t) × Orders i block written
