-- The results of the search for an entry of a folder by its name.
use Rattle.std.specs.Prelude.{◌≡◌, ◌⊎◌, ℕ, zero, suc, List, [], ◌∷◌, length, take, drop, Option, Some, None}
use Rattle.std.specs.Str.{IsUtf8}
use Rattle.ipld_block.specs.Digest.{digest_by}
use Rattle.ipld_cid.specs.Cid.{Link}
use Rattle.unixfs_folders.specs.declared.error.FolderErrorKind.{FolderErrorKind}
use Rattle.unixfs_folders.specs.Folders.{HasEntry, HasNoEntry}
use Rattle.unixfs_folders.specs.Lookups.{LookupParts, Descends, LooksIn, IsLookupFault}
use Rattle.unixfs_folders.specs.Views.{IsMemory}
use Rattle.kombilad_c.specs.declared.cid_record.CidBytes.{CidBytes}
use Rattle.kombilad_c.specs.declared.positions.Span.{Span}
use Rattle.kombilad_c.specs.CidRecord.{record_of}
use Rattle.kombilad_c.specs.Fill.{Variable}
use Rattle.kombilad_c.specs.Status.{folder_status, folder_place}

-- the bytes at a place, as far as there are bytes
abbrev pub content_at : List ℕ → Span → List ℕ
content_at bytes place = take place.len (drop place.offset bytes)

-- the block with this index, if there is one
abbrev pub block_at : ℕ → List (List ℕ) → Option (List ℕ)
block_at index [] = None
block_at zero (block ∷ blocks) = Some block
block_at (suc index) (block ∷ blocks) = block_at index blocks

-- True if the search in the folder comes as far as one of the blocks, and doesn't take it for this
-- reason.
pub record StopsAt (folder : Link) (name : List ℕ) (blocks : List (List ℕ)) (error : FolderErrorKind) : Type 0 where
  pub state : LookupParts
  pub block : List ℕ
  pub named : state.name ≡ name
  pub looks : LooksIn digest_by folder state
  pub is_block : block_at state.depth blocks ≡ Some block
  pub fault : IsMemory error ⊎ IsLookupFault state block error

-- True if the folder has an entry with the name, its CID is written, and the status is 0. Or it has
-- none, and the status is 236. Or the blocks lead to another one below, whose CID is written, and the
-- status is 237. Or the search stops at a block, and the status and the place are those of the error.
-- Nothing else is written.
pub data LooksUp (folder : Link) (name : List ℕ) (blocks : List (List ℕ)) (status : ℕ) (cid : Variable CidBytes) (place : Variable ℕ) : Type 0 where
  finds : (target : Link) → HasEntry digest_by folder name target → status ≡ 0 → cid.after ≡ record_of target → place.after ≡ place.before
      → LooksUp folder name blocks status cid place
  finds_none : HasNoEntry digest_by folder name → status ≡ 236 → cid.after ≡ cid.before → place.after ≡ place.before
      → LooksUp folder name blocks status cid place
  asks : (next : Link) → Descends digest_by folder name (length blocks) next → status ≡ 237 → cid.after ≡ record_of next → place.after ≡ place.before
      → LooksUp folder name blocks status cid place
  stops : (error : FolderErrorKind) → StopsAt folder name blocks error → status ≡ folder_status error → place.after ≡ folder_place error → cid.after ≡ cid.before
      → LooksUp folder name blocks status cid place

-- True if the name is UTF-8 and this is the result for it, or it is not, and the status is 37.
abbrev pub LooksFor : (folder : Link) (name : List ℕ) (blocks : List (List ℕ)) (status : ℕ) → Variable CidBytes → Variable ℕ → Type 0
LooksFor folder name blocks status cid place =
    (IsUtf8 name × LooksUp folder name blocks status cid place)
    ⊎ ((IsUtf8 name → ⊥) × (status ≡ 37) × (cid.after ≡ cid.before) × (place.after ≡ place.before))
