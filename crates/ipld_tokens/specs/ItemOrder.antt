-- This file defines items whose maps have their keys in byte order (the IPLD data model: the keys
-- of a map are strings).
use Rattle.std.specs.Prelude.{ℕ, List, [], ◌∷◌, Option, Some, None}
use Rattle.std.specs.List.Sorted.{IsStrictlySortedBy}
use Rattle.std.specs.Cmp.Lexicographic.{slice_cmp}
use Rattle.std.specs.Ordering.{nat_cmp}
use Rattle.ipld_tokens.specs.Item.{Item, atom_item, bytes_item, some_item, variant_item, list_item, map_item, link_item, Parts, no_parts, part, Pairs, no_pairs, pair}
use Rattle.ipld_tokens.specs.ItemTree.{key_text}

abbrev pub text_before : Option (List ℕ) → List (List ℕ) → List (List ℕ)
text_before None texts = texts
text_before (Some text) texts = text ∷ texts

-- the strings of the keys that are strings or characters, in the order of the pairs
abbrev pub key_texts : Pairs 64 → List (List ℕ)
key_texts no_pairs = []
key_texts (pair key value ps) = text_before (key_text key) (key_texts ps)

-- True if `P` holds of the pairs of every map in the item, except maps in keys.
abbrev mutual
  pub InEachMap : (Pairs 64 → Type 0) → Item 64 → Type 0
  InEachMap P (atom_item a) = Unit {0}
  InEachMap P (bytes_item b) = Unit {0}
  InEachMap P (some_item i) = InEachMap P i
  InEachMap P (variant_item name i) = InEachMap P i
  InEachMap P (list_item is) = InMapsOfParts P is
  InEachMap P (map_item ps) = P ps × InMapsOfValues P ps
  InEachMap P (link_item encoded cid is) = Unit {0}

  pub InMapsOfParts : (Pairs 64 → Type 0) → Parts 64 → Type 0
  InMapsOfParts P no_parts = Unit {0}
  InMapsOfParts P (part i is) = InEachMap P i × InMapsOfParts P is

  pub InMapsOfValues : (Pairs 64 → Type 0) → Pairs 64 → Type 0
  InMapsOfValues P no_pairs = Unit {0}
  InMapsOfValues P (pair key value ps) = InEachMap P value × InMapsOfValues P ps

-- True if the keys that are strings or characters strictly ascend in byte order.
abbrev pub Ascend : Pairs 64 → Type 0
Ascend ps = IsStrictlySortedBy (slice_cmp nat_cmp) (key_texts ps)

-- True if the keys that are strings or characters strictly ascend in byte order in every map of the
-- item, except maps in keys.
abbrev pub KeysAscend : Item 64 → Type 0
KeysAscend = InEachMap Ascend
