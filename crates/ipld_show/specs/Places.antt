-- The items and entries at a place in a block.
use Rattle.std.specs.Prelude.{◌≡◌, ℕ, ◌+◌, List, ◌++◌, length, map, Option, Some, None}
use Rattle.ipld_show.specs.DataItem.{DataItem, list, map as of_entries, DataItems, DataEntries, entries_encoding, AreDataEntries, BeginsWithItem}
use Rattle.ipld_show.specs.Extents.{extents, entries_extents}
use Rattle.ipld_show.specs.JsonText.{Member, IsInKeyOrder, IsItemAt, IsValueAt, StandsIn}
use Rattle.ipld_show.specs.declared.containers.Extent.{Extent}
use Rattle.ipld_show.specs.declared.places.Place.{Place}
use Rattle.ipld_show.specs.declared.places.Entry.{Entry}

abbrev pub IsContainer : DataItem → Type 0
IsContainer (list ds) = Unit {0}
IsContainer (of_entries es) = Unit {0}
IsContainer _ = ⊥

-- True if the item and its extents begin at the place, and `mid` and `post` follow them.
pub record HoldsItem (d : DataItem) (place : Place) (mid : List ℕ) (post : List Extent) : Type 0 where
  pub begins : BeginsWithItem d place.rest.now mid
  pub listed : place.containers.now ≡ extents d ++ post

-- True if there is a place, and it is that of the bytes `mid` and the extents `post`.
abbrev pub IsBehind : Option Place → List ℕ → List Extent → Type 0
IsBehind None mid post = ⊥
IsBehind (Some place) mid post = (place.rest.now ≡ mid) × (place.containers.now ≡ post)

-- True if the item is a part of `whole` and begins when `left` bytes are left, of the `total` bytes
-- of `whole` and of the bytes after it.
pub record StandsBefore (whole : DataItem) (total left : ℕ) (d : DataItem) : Type 0 where
  pub at : ℕ
  pub stands : StandsIn whole at d
  pub is_at : at + left ≡ total

-- True if `d` is a part of `whole` and begins at the place.
pub record HoldsPart (whole : DataItem) (total : ℕ) (d : DataItem) (place : Place) : Type 0 where
  pub mid : List ℕ
  pub post : List Extent
  pub holds : HoldsItem d place mid post
  pub stands : StandsBefore whole total (length place.rest.now) d

-- True if the items (below, the values of the entries) are parts of `whole`, and begin when `left`
-- bytes are left.
abbrev pub ItemsStand : DataItem → ℕ → ℕ → DataItems → Type 0
ItemsStand whole total left ds = (n rest : ℕ) (d : DataItem) → IsItemAt n d ds → n + rest ≡ left → StandsBefore whole total rest d

abbrev pub ValuesStand : DataItem → ℕ → ℕ → DataEntries → Type 0
ValuesStand whole total left es = (n rest : ℕ) (d : DataItem) → IsValueAt n d es → n + rest ≡ left → StandsBefore whole total rest d

-- True if entries begin at the place, and their values are parts of `whole`.
pub record HoldsEntries (whole : DataItem) (total : ℕ) (es : DataEntries) (place : Place) : Type 0 where
  pub mid : List ℕ
  pub post : List Extent
  pub are_entries : AreDataEntries es
  pub encoded : place.rest.now ≡ entries_encoding es ++ mid
  pub listed : place.containers.now ≡ entries_extents es ++ post
  pub stand : ValuesStand whole total (length place.rest.now) es

-- an entry, and the member that it represents
pub record KnownEntry (whole : DataItem) (total : ℕ) : Type 0 where
  pub entry : Entry
  pub member : Member
  pub key : entry.key.now ≡ member.0
  pub value : HoldsPart whole total member.1 entry.value

-- True if `entries` are the entries of the map, in the order of their keys.
pub record AreEntriesOf (whole : DataItem) (total : ℕ) (es : DataEntries) (entries : List Entry) : Type 0 where
  pub known : List (KnownEntry whole total)
  pub are : entries ≡ map (λ k. k.entry) known
  pub in_order : IsInKeyOrder es (map (λ k. k.member) known)
