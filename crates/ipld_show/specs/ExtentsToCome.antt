-- The extents of lists and maps that are still to be listed while a block is read.
use Rattle.std.specs.Prelude.{◌≡◌, ℕ, ◌-◌, List, [], ◌∷◌, ◌++◌, length, reverse, slice_set}
use Rattle.ipld_show.specs.DataItem.{DataItem, IsDataItem, encoding, BeginsWithItem}
use Rattle.ipld_show.specs.Extents.{extents}
use Rattle.ipld_show.specs.declared.containers.Extent.{Extent}
use Rattle.ipld_show.specs.declared.containers.Open.{Open}

abbrev pub encodings : List DataItem → List ℕ
encodings [] = []
encodings (d ∷ ds) = encoding d ++ encodings ds

abbrev pub all_extents : List DataItem → List Extent
all_extents [] = []
all_extents (d ∷ ds) = extents d ++ all_extents ds

abbrev pub AllItems : List DataItem → Type 0
AllItems [] = Unit {0}
AllItems (d ∷ ds) = IsDataItem d × AllItems ds

-- the listed extents, with that of the open list or map `o`, if it ends with `left` bytes left
abbrev pub ended : Open → ℕ → List Extent → List Extent
ended o left containers = slice_set containers o.index (record { size = o.start - left; count = length containers - o.index })

-- True if `rest` begins with the items that are left in an open list or map, keys included, and
-- `Outside` holds for the bytes after them and the extents listed at its end.
pub record InOpen (o : Open) (rest : List ℕ) (containers : List Extent) (Outside : List ℕ → List Extent → Type 0) : Type 0 where
  pub items : List DataItem
  pub mid : List ℕ
  pub are_items : AllItems items
  pub count : length items ≡ o.items
  pub encoded : rest ≡ encodings items ++ mid
  pub outside : Outside mid (ended o (length mid) (containers ++ all_extents items))

-- True if an item ended at `rest`, and the extents that are listed, with those to come in the open
-- lists and maps, innermost first, are `all`.
abbrev pub PendingIn : List Open → List ℕ → List Extent → List Extent → Type 0
PendingIn [] rest containers all = containers ≡ all
PendingIn (o ∷ os) rest containers all = InOpen o rest containers (λ mid xs. PendingIn os mid xs all)

abbrev pub Pending : List Open → List ℕ → List Extent → List Extent → Type 0
Pending opened rest containers all = PendingIn (reverse opened) rest containers all

-- True if `rest` begins with an item, and the rest of the open lists and maps follows it.
pub record ItemPending (opened : List Open) (rest : List ℕ) (containers all : List Extent) : Type 0 where
  pub next : DataItem
  pub more : List ℕ
  pub begins : BeginsWithItem next rest more
  pub pending : Pending opened more (containers ++ extents next) all

-- True if `rest` begins with an item of an open list or map, or nothing is open and `all` is
-- listed.
abbrev pub Following : List Open → List ℕ → List Extent → List Extent → Type 0
Following [] rest containers all = containers ≡ all
Following (o ∷ os) rest containers all = ItemPending (o ∷ os) rest containers all
