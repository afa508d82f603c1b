-- Parts of data items and of paths that are skipped.
use Rattle.std.specs.Prelude.{◌≡◌, ℕ, ◌*◌, ◌-◌, ◌^◌, nat_lt, min, List, length, filter, Option, Some, None, Result, Ok, Err}
use Rattle.std.specs.Borrow.{Bor}
use Rattle.dag_cbor_format.specs.declared.item.ItemHead.{ItemHead}
use Rattle.dag_cbor_format.specs.declared.item.ItemHead.TheVariants.{List as OfList, Map as OfMap}
use Rattle.ipld_show.specs.AtPath.{AtPath, found, no_segment, not_a_container}
use Rattle.ipld_show.specs.DataItem.{DataItem, BeginsWithItem}
use Rattle.ipld_show.specs.declared.error.ShowError.{ShowError}
use Rattle.ipld_show.specs.declared.error.ShowError.TheVariants.{NoSegment, NotAContainer}

-- the number of items directly in an item with this head, keys included (for a map at most 2^64 -
-- 1)
abbrev pub items_within : ItemHead → ℕ
items_within (OfList n) = n
items_within (OfMap n) = min (n * 2) (2 ^ 64 - 1)
items_within _ = 0

-- the parts of a path that are not empty
abbrev pub parts_in : List (List ℕ) → List (List ℕ)
parts_in parts = filter (λ part. nat_lt 0 (length part)) parts

-- True if the returned bytes are those of the item and then `after`, or without an item nothing is
-- returned.
abbrev pub Finds : Option DataItem → (after : List ℕ) → Result (Option (Bor (List ℕ))) ShowError → Type 0
Finds None after (Ok None) = Unit {0}
Finds (Some d) after (Ok (Some value)) = BeginsWithItem d value.now after
Finds _ _ _ = ⊥

-- True if `LeadsTo` holds, and the returned bytes are those of the item and then `after`.
abbrev pub LeadsBefore : AtPath → (after : List ℕ) → Result (Bor (List ℕ)) ShowError → Type 0
LeadsBefore (found d) after (Ok value) = BeginsWithItem d value.now after
LeadsBefore (no_segment number) after (Err error) = error ≡ NoSegment number
LeadsBefore (not_a_container number) after (Err error) = error ≡ NotAContainer number
LeadsBefore _ _ _ = ⊥

-- True if `LeadsBefore` holds, and the result has the number of segments that were passed.
abbrev pub LeadsBehind : AtPath → ℕ → (after : List ℕ) → Result (Bor (List ℕ) × ℕ) ShowError → Type 0
LeadsBehind (found d) passed after (Ok read) = (read.1 ≡ passed) × BeginsWithItem d read.0.now after
LeadsBehind (no_segment number) passed after (Err error) = error ≡ NoSegment number
LeadsBehind (not_a_container number) passed after (Err error) = error ≡ NotAContainer number
LeadsBehind _ _ _ _ = ⊥
