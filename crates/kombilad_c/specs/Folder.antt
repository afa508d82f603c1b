-- The results of the exports about folders. `old` and `new` are what a handle holds before a call and
-- after it, if it holds anything.
use Rattle.std.specs.Prelude.{◌≡◌, ◌⊎◌, ◌+◌, ◌/◌, ◌<◌, ◌++◌, ℕ, List, [], ◌∷◌, length, unwrap_or, is_some, if◌then◌else◌, Option, Some, None}
use Rattle.ipld_block.specs.Digest.{digest_by}
use Rattle.ipld_cid.specs.Cid.{Link}
use Rattle.unixfs_folders.specs.declared.error.FolderErrorKind.{FolderErrorKind}
use Rattle.unixfs_folders.specs.declared.walk.FolderWalk.{FolderWalk}
use Rattle.unixfs_folders.specs.Folders.{EntryParts}
use Rattle.unixfs_folders.specs.Listing.{from_root, Takes, IsListingFault}
use Rattle.unixfs_folders.specs.Views.{IsMemory}
use Rattle.unixfs_folders.specs.Walks.{remain_of}
use Rattle.kombilad_c.specs.declared.folder.EntryRow.{EntryRow}
use Rattle.kombilad_c.specs.declared.held.Held.{Held}
use Rattle.kombilad_c.specs.declared.held.Held.TheVariants.{File, Folder, Packing}
use Rattle.kombilad_c.specs.CidRecord.{record_of}
use Rattle.kombilad_c.specs.Fill.{Variable, IsFilled}
use Rattle.kombilad_c.specs.Status.{folder_status, folder_place}

-- ---- rows

-- the row of an entry whose name begins at this byte of the names
abbrev pub row_at : ℕ → EntryParts → EntryRow
row_at at e =
    record { cid = record_of e.link; name = record { offset = at; len = length e.name }; tsize = unwrap_or e.tsize 0; has_tsize = if is_some e.tsize then 1 else 0 }

-- the rows of entries whose names begin at this byte, one after the other
abbrev pub rows_from : ℕ → List EntryParts → List EntryRow
rows_from at [] = []
rows_from at (e ∷ es) = row_at at e ∷ rows_from (at + length e.name) es

-- the names of entries, one after the other
abbrev pub names_of : List EntryParts → List ℕ
names_of [] = []
names_of (e ∷ es) = e.name ++ names_of es

-- ---- results

-- True if the handle holds a walk over a folder that satisfies `Q`.
abbrev pub HoldsFolder : Option Held → (FolderWalk → Type 0) → Type 0
HoldsFolder None Q = ⊥
HoldsFolder (Some (File walk)) Q = ⊥
HoldsFolder (Some (Packing packing)) Q = ⊥
HoldsFolder (Some (Folder walk)) Q = Q walk

-- True if the handle holds a walk that begins at the root, and the status is 0. Or an allocation
-- failed, and the handle is as before.
abbrev pub BeginsFolder : Link → (status : ℕ) → (old new : Option Held) → Type 0
BeginsFolder root status old new =
    ((status ≡ 0) × HoldsFolder new (λ walk. remain_of walk ≡ from_root root ∷ [])) ⊎ ((status ≡ 1) × (new ≡ old))

-- True if a walk took a block with these entries, their rows and names are at the beginnings of the
-- buffers, and the status is 0.
pub record ListsEntries (old new : FolderWalk) (block : List ℕ) (status : ℕ) (rows : Variable (List EntryRow)) (names : Variable (List ℕ)) (needed : ℕ) : Type 0 where
  pub entries : List EntryParts
  pub takes : Takes digest_by (remain_of old) (remain_of new) block entries
  pub done : status ≡ 0
  pub rows_filled : IsFilled (rows_from 0 entries) rows.before rows.after
  pub names_filled : IsFilled (names_of entries) names.before names.after
  pub number_needed : needed ≡ length entries

-- True if the buffers are as before.
abbrev pub AreUntouched : Variable (List EntryRow) → Variable (List ℕ) → Type 0
AreUntouched rows names = (rows.after ≡ rows.before) × (names.after ≡ names.before)

-- True if a walk did not take the block. It wants the same blocks as before, and nothing is written
-- but the place of the error.
pub record RefusesBlock (old new : FolderWalk) (block : List ℕ) (status : ℕ) (rows : Variable (List EntryRow)) (names : Variable (List ℕ)) (needed place : Variable ℕ) : Type 0 where
  pub error : FolderErrorKind
  pub fault : IsMemory error ⊎ IsListingFault (remain_of old) block error
  pub failed : status ≡ folder_status error
  pub place_is : place.after ≡ folder_place error
  pub stays : remain_of new ≡ remain_of old
  pub untouched : AreUntouched rows names
  pub same_number : needed.after ≡ needed.before

-- True if a buffer is too short for the entries that a block of this length can have: the rows are
-- fewer than a sixth of its bytes, or there is less room for names than it has bytes. The status is
-- 2, the needed number is a sixth of the bytes, and all else is as before.
pub record LacksRoom (old new : FolderWalk) (block : List ℕ) (status : ℕ) (rows : Variable (List EntryRow)) (names : Variable (List ℕ)) (needed place : Variable ℕ) : Type 0 where
  pub short : (length rows.before < length block / 6) ⊎ (length names.before < length block)
  pub failed : status ≡ 2
  pub number_needed : needed.after ≡ length block / 6
  pub same_walk : new ≡ old
  pub untouched : AreUntouched rows names
  pub same_place : place.after ≡ place.before

-- True if a walk took the block, or did not take it for an error, or a buffer is too short.
abbrev pub ListsBlock :
    (old new : FolderWalk) → (block : List ℕ) → (status : ℕ) → Variable (List EntryRow) → Variable (List ℕ) → (needed place : Variable ℕ) → Type 0
ListsBlock old new block status rows names needed place =
    (ListsEntries old new block status rows names needed.after × (place.after ≡ place.before))
    ⊎ RefusesBlock old new block status rows names needed place
    ⊎ LacksRoom old new block status rows names needed place

-- True if the handle holds no walk over a folder: the status is 193, and nothing is written.
abbrev pub IsClosed : (old new : Option Held) → (status : ℕ) → Variable (List EntryRow) → Variable (List ℕ) → (needed place : Variable ℕ) → Type 0
IsClosed old new status rows names needed place =
    (status ≡ 193) × (new ≡ old) × AreUntouched rows names × (needed.after ≡ needed.before) × (place.after ≡ place.before)

-- True if this is the result for what a handle holds.
abbrev pub ListsFrom :
    (old new : Option Held) → (block : List ℕ) → (status : ℕ) → Variable (List EntryRow) → Variable (List ℕ) → (needed place : Variable ℕ) → Type 0
ListsFrom None new block status rows names needed place = IsClosed None new status rows names needed place
ListsFrom (Some (File walk)) new block status rows names needed place = IsClosed (Some (File walk)) new status rows names needed place
ListsFrom (Some (Packing packing)) new block status rows names needed place = IsClosed (Some (Packing packing)) new status rows names needed place
ListsFrom (Some (Folder walk)) new block status rows names needed place = HoldsFolder new (λ next. ListsBlock walk next block status rows names needed place)
