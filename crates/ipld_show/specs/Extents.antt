-- The number of bytes, and of lists and maps, in every list and map of a data item.
use Rattle.std.specs.Prelude.{ℕ, suc, List, [], ◌∷◌, ◌++◌, length}
use Rattle.ipld_show.specs.DataItem.{DataItem, list, map, DataItems, no_items, item, DataEntries, no_entries, entry, encoding}
use Rattle.ipld_show.specs.declared.containers.Extent.{Extent}

-- the extent of a list or a map of `size` bytes, before the extents in it
abbrev pub extent_before : ℕ → List Extent → List Extent
extent_before size inner = record { size = size; count = suc (length inner) } ∷ inner

abbrev mutual
  -- the extents of the lists and maps in an item, in the order in which they begin
  pub extents : DataItem → List Extent
  extents (list ds) = extent_before (length (encoding (list ds))) (items_extents ds)
  extents (map es) = extent_before (length (encoding (map es))) (entries_extents es)
  extents _ = []

  pub items_extents : DataItems → List Extent
  items_extents no_items = []
  items_extents (item d ds) = extents d ++ items_extents ds

  pub entries_extents : DataEntries → List Extent
  entries_extents no_entries = []
  entries_extents (entry k d es) = extents d ++ entries_extents es
