-- The result of the export that finds the value at a path in a block.
use Rattle.std.specs.Prelude.{◌≡◌, ◌⊎◌, ℕ, List, [], None}
use Rattle.std.specs.Str.{IsUtf8}
use Rattle.ipld_tree.specs.Path.{segments}
use Rattle.ipld_tree.specs.declared.limits.Limits.{Limits}
use Rattle.ipld_show.specs.AtPath.{no_segment, not_a_container, at_segments}
use Rattle.ipld_show.specs.DataItem.{DataItem, BeginsWithItem}
use Rattle.ipld_show.specs.OnPath.{link_along}
use Rattle.ipld_show.specs.Reach.{Reaches}
use Rattle.ipld_show.specs.declared.at_path.ValuePlace.{ValuePlace}
use Rattle.kombilad_c.specs.declared.positions.Span.{Span}
use Rattle.kombilad_c.specs.Block.{IsStopped}
use Rattle.kombilad_c.specs.Fill.{Variable}
use Rattle.kombilad_c.specs.ToJson.{EncodesItem}

-- the place of a value as a C struct
abbrev pub value_span : ValuePlace → Span
value_span r = record { offset = r.offset; len = r.len }

-- True if the path leads from the item of the block to a value. Its place and the byte at which the
-- rest of the path begins are written, and the status is 0. Or it leads through no link, and to
-- nothing at a segment, whose number is written. Then the status is 64 if the segments before it
-- lead to a list or a map, and otherwise 65. Nothing else is written.
pub data FindsInItem (d : DataItem) (block path : List ℕ) (status : ℕ) (value : Variable Span) (rest place : Variable ℕ) : Type 0 where
  finds : (at : ValuePlace) → Reaches d path block [] at → status ≡ 0 → value.after ≡ value_span at → rest.after ≡ at.rest → place.after ≡ place.before
      → FindsInItem d block path status value rest place
  misses : link_along 0 (segments path) d ≡ None → at_segments 0 (segments path) d ≡ no_segment place.after → status ≡ 64 → value.after ≡ value.before → rest.after ≡ rest.before
      → FindsInItem d block path status value rest place
  ends_early : link_along 0 (segments path) d ≡ None → at_segments 0 (segments path) d ≡ not_a_container place.after → status ≡ 65 → value.after ≡ value.before → rest.after ≡ rest.before
      → FindsInItem d block path status value rest place

-- True if this is the result for each item that the block encodes.
abbrev pub FindsInBlock : (block path : List ℕ) → (status : ℕ) → Variable Span → (rest place : Variable ℕ) → Type 0
FindsInBlock block path status value rest place =
    (d : DataItem) → BeginsWithItem d block [] → FindsInItem d block path status value rest place

-- True if the block encodes an item within the limits, and this is the result for the path. If the
-- path is not UTF-8 the status is 37, and nothing is written. Or reading the block stopped, and only
-- the place is written.
abbrev pub FindsAt : Limits → (block path : List ℕ) → (status : ℕ) → Variable Span → (rest place : Variable ℕ) → Type 0
FindsAt limits block path status value rest place =
    ((d : DataItem) × EncodesItem limits block d × IsUtf8 path
    × FindsInItem d block path status value rest place)
    ⊎ ((d : DataItem) × EncodesItem limits block d × (IsUtf8 path → ⊥) × (status ≡ 37)
    × (value.after ≡ value.before) × (rest.after ≡ rest.before) × (place.after ≡ place.before))
    ⊎ (IsStopped limits block status place.after × (value.after ≡ value.before)
    × (rest.after ≡ rest.before))
