-- The data item at a path in a data item (IPLD data model, pathing). Every segment is a key of a
-- map or an index of a list, looked up one after the other.
use Rattle.std.specs.Prelude.{◌≡◌, ℕ, zero, suc, List, [], ◌∷◌, Option, Some, None, Result, Ok, Err, if◌then◌else◌}
use Rattle.std.specs.Borrow.{Bor}
use Rattle.std.specs.Str.{bytes_eq}
use Rattle.ipld_tree.specs.Index.{number_of}
use Rattle.ipld_show.specs.DataItem.{DataItem, list, map, DataItems, no_items, item, DataEntries, no_entries, entry, BeginsWithItem}
use Rattle.ipld_show.specs.declared.error.ShowError.{ShowError}
use Rattle.ipld_show.specs.declared.error.ShowError.TheVariants.{NoSegment, NotAContainer}

-- The result of a path: the item at it, or the number of a segment. `no_segment`: the first segment
-- that is neither a key nor an index there. `not_a_container`: the first segment after a value that
-- is neither a list nor a map.
pub data AtPath : Type 0 where
  found : DataItem → AtPath
  no_segment : ℕ → AtPath
  not_a_container : ℕ → AtPath

abbrev pub item_at : ℕ → DataItems → Option DataItem
item_at n no_items = None
item_at zero (item d ds) = Some d
item_at (suc n) (item d ds) = item_at n ds

-- the item at this index, or nothing without an index or without an item at it
abbrev pub item_numbered : Option ℕ → DataItems → Option DataItem
item_numbered None ds = None
item_numbered (Some n) ds = item_at n ds

abbrev pub value_under : List ℕ → DataEntries → Option DataItem
value_under key no_entries = None
value_under key (entry k d es) = if bytes_eq key k then Some d else value_under key es

abbrev pub if_found : ℕ → Option DataItem → AtPath
if_found number None = no_segment number
if_found number (Some d) = found d

-- the item at a segment in an item, or the error with the number of the segment
abbrev pub at_segment : ℕ → List ℕ → DataItem → AtPath
at_segment number segment (list ds) = if_found number (item_numbered (number_of segment) ds)
at_segment number segment (map es) = if_found number (value_under segment es)
at_segment number segment _ = not_a_container number

abbrev pub then_at : (DataItem → AtPath) → AtPath → AtPath
then_at next (found d) = next d
then_at next (no_segment number) = no_segment number
then_at next (not_a_container number) = not_a_container number

-- The item at the end of these segments, which come after `before` others. Without segments it is
-- the item itself. If the path leads to nothing, it is the number of the first segment that leads
-- nowhere (IPLD data model, pathing). That segment is neither a key nor an index there, or it is
-- after a value that is neither a list nor a map.
abbrev pub at_segments : ℕ → List (List ℕ) → DataItem → AtPath
at_segments before [] d = found d
at_segments before (s ∷ ss) d = then_at (at_segments (suc before) ss) (at_segment (suc before) s d)

-- True if the returned bytes begin with the item that is found, or the error has the number of the
-- segment that leads to nothing.
abbrev pub LeadsTo : AtPath → Result (Bor (List ℕ)) ShowError → Type 0
LeadsTo (found d) (Ok value) = (rest : List ℕ) × BeginsWithItem d value.now rest
LeadsTo (no_segment number) (Err error) = error ≡ NoSegment number
LeadsTo (not_a_container number) (Err error) = error ≡ NotAContainer number
LeadsTo _ _ = ⊥
