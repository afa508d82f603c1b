-- Blocks of DAG-CBOR with floats or without: the bytes that encode an item. A float has no item of
-- its own, and the item has null instead.
use Rattle.std.specs.Prelude.{◌≡◌, ◌⊎◌, ℕ, suc, ◌^◌, ◌<◌, Bool, true, List, [], ◌∷◌, ◌++◌, length, Some}
use Rattle.ipld_tree.specs.Tree.{Tree}
use Rattle.ipld_tokens.specs.Token.{Atom, none}
use Rattle.ipld_tokens.specs.Item.{Item, atom_item, bytes_item, some_item, variant_item, list_item, map_item, link_item, Parts, no_parts, part, Pairs, no_pairs, pair}
use Rattle.ipld_tokens.specs.ItemTree.{tree_of_item}
use Rattle.dag_cbor_format.specs.declared.major.Major.TheVariants.{Bytes, List as Array, Map, Tag, Simple}
use Rattle.dag_cbor_format.specs.Head.{head}
use Rattle.dag_cbor_format.specs.Encoding.{part_count, pair_count, atom_encoding, encoding, HasAtom, IsKey}
use Rattle.dag_cbor_format.specs.Floats.{IsFloat}

-- True if the bytes encode the scalar. If floats are read, a float encodes null as well.
abbrev pub EncodesAtom : Bool → Atom → List ℕ → Type 0
EncodesAtom floats none bytes = (bytes ≡ head Simple 22) ⊎ ((floats ≡ true) × IsFloat bytes)
EncodesAtom floats a bytes = HasAtom a × (bytes ≡ atom_encoding a)

abbrev mutual
  -- True if the bytes encode the item. If floats are read, any null in it may be a float (the
  -- DAG-CBOR specification).
  pub EncodesIn : Bool → Item 64 → List ℕ → Type 0
  EncodesIn floats (atom_item a) bytes = EncodesAtom floats a bytes
  EncodesIn floats (bytes_item b) bytes = (length b < 2 ^ 64) × (bytes ≡ head Bytes (length b) ++ b)
  EncodesIn floats (some_item i) bytes = ⊥
  EncodesIn floats (variant_item name i) bytes = ⊥
  EncodesIn floats (list_item is) bytes = (part_count is < 2 ^ 64) × (content : List ℕ) × EncodeParts floats is content × (bytes ≡ head Array (part_count is) ++ content)
  EncodesIn floats (map_item ps) bytes = (pair_count ps < 2 ^ 64) × (content : List ℕ) × EncodePairs floats ps content × (bytes ≡ head Map (pair_count ps) ++ content)
  EncodesIn floats (link_item encoded cid is) bytes = (suc (length encoded) < 2 ^ 64) × (bytes ≡ head Tag 42 ++ (head Bytes (suc (length encoded)) ++ 0 ∷ encoded))

  -- True if the bytes encode the items of a list, one after another.
  pub EncodeParts : Bool → Parts 64 → List ℕ → Type 0
  EncodeParts floats no_parts bytes = bytes ≡ []
  EncodeParts floats (part i is) bytes = (first : List ℕ) × (more : List ℕ) × EncodesIn floats i first × EncodeParts floats is more × (bytes ≡ first ++ more)

  -- True if the bytes encode the pairs of a map, keys and values alternating.
  pub EncodePairs : Bool → Pairs 64 → List ℕ → Type 0
  EncodePairs floats no_pairs bytes = bytes ≡ []
  EncodePairs floats (pair key value ps) bytes =
      (first : List ℕ) × (more : List ℕ) × IsKey key × EncodesIn floats value first × EncodePairs floats ps more × (bytes ≡ encoding key ++ (first ++ more))

-- True if the bytes encode an item whose tree is `t`, so that no key is twice in a map. If floats
-- are read, any null in the item may be a float (the DAG-CBOR specification).
abbrev pub EncodesTreeIn : Bool → Tree → List ℕ → Type 0
EncodesTreeIn floats t bytes = (i : Item 64) × EncodesIn floats i bytes × (tree_of_item i ≡ Some t)
