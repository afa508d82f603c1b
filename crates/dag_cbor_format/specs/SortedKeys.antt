-- Items whose maps have their keys in the order of writing (DAG-CBOR specification, "Strictness"):
-- by length, then by bytes.
use Rattle.std.specs.Prelude.{◌≡◌, ℕ, true, List, Option, Some}
use Rattle.ipld_tokens.specs.Item.{Item, Pairs, no_pairs, pair}
use Rattle.ipld_tokens.specs.ItemOrder.{InEachMap}
use Rattle.ipld_tokens.specs.ItemTree.{key_text}
use Rattle.dag_cbor_format.specs.Canonical.{goes_first}

abbrev pub GoesFirst : Option (List ℕ) → Option (List ℕ) → Type 0
GoesFirst (Some j) (Some k) = goes_first j k ≡ true
GoesFirst _ _ = ⊥

-- True if a key goes before the keys of all pairs.
abbrev pub IsFirst : Option (List ℕ) → Pairs 64 → Type 0
IsFirst k no_pairs = Unit {0}
IsFirst k (pair key value ps) = GoesFirst k (key_text key) × IsFirst k ps

-- True if every key goes before those after it.
abbrev pub AreSorted : Pairs 64 → Type 0
AreSorted no_pairs = Unit {0}
AreSorted (pair key value ps) = IsFirst (key_text key) ps × AreSorted ps

-- True if in every map of the item every key goes before all keys after it (the DAG-CBOR
-- specification, "Strictness").
abbrev pub HasSortedKeys : Item 64 → Type 0
HasSortedKeys = InEachMap AreSorted
