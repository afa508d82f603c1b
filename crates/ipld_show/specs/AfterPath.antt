-- The bytes of an item that follow the value at a path in it. They tell apart equal values at
-- different places.
use Rattle.std.specs.Prelude.{ℕ, zero, suc, List, [], ◌∷◌, ◌++◌, Option, Some, None, if◌then◌else◌}
use Rattle.std.specs.Str.{bytes_eq}
use Rattle.ipld_tree.specs.Index.{number_of}
use Rattle.ipld_show.specs.AtPath.{AtPath, found, no_segment, not_a_container, at_segment}
use Rattle.ipld_show.specs.DataItem.{DataItem, list, map, DataItems, no_items, item, DataEntries, no_entries, entry, items_encoding, entries_encoding}

-- the bytes of the items after the one with this index
abbrev pub after_item : ℕ → DataItems → List ℕ
after_item n no_items = []
after_item zero (item d ds) = items_encoding ds
after_item (suc n) (item d ds) = after_item n ds

-- the bytes of the items after the one with this index, or none without an index
abbrev pub after_numbered : Option ℕ → DataItems → List ℕ
after_numbered None ds = []
after_numbered (Some n) ds = after_item n ds

-- the bytes of the entries after the one with this key
abbrev pub after_value : List ℕ → DataEntries → List ℕ
after_value key no_entries = []
after_value key (entry k d es) = if bytes_eq key k then entries_encoding es else after_value key es

-- the bytes of an item after the value at a segment
abbrev pub after_segment : List ℕ → DataItem → List ℕ
after_segment segment (list ds) = after_numbered (number_of segment) ds
after_segment segment (map es) = after_value segment es
after_segment segment _ = []

-- the bytes that follow in an item that is found
abbrev pub after_found : (DataItem → List ℕ) → AtPath → List ℕ
after_found next (found d) = next d
after_found next (no_segment number) = []
after_found next (not_a_container number) = []

-- The bytes of an item after the value at these segments, which come after `before` others. Without
-- segments the value is the item itself, and nothing follows.
abbrev pub after_segments : ℕ → List (List ℕ) → DataItem → List ℕ
after_segments before [] d = []
after_segments before (s ∷ ss) d = after_found (after_segments (suc before) ss) (at_segment (suc before) s d) ++ after_segment s d
