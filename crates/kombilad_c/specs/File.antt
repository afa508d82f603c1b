-- The results of the exports about files. `old` and `new` are what a handle holds before a call and
-- after it, if it holds anything.
use Rattle.std.specs.Prelude.{◌≡◌, ◌⊎◌, ℕ, List, [], ◌∷◌, length, Option, Some, None}
use Rattle.ipld_cid.specs.Cid.{Link}
use Rattle.unixfs.specs.Files.{whole}
use Rattle.unixfs_files.specs.declared.error.PartError.{PartError}
use Rattle.unixfs_files.specs.declared.state.FileLimits.{FileLimits}
use Rattle.unixfs_files.specs.declared.state.FileRange.{FileRange}
use Rattle.unixfs_files.specs.declared.state.FileWalk.{FileWalk}
use Rattle.unixfs_files.specs.Walking.{range_of, parts_left, remain_of, HaveLevel, Takes, Counts, Stays, WalkFault}
use Rattle.kombilad_c.specs.declared.held.Held.{Held}
use Rattle.kombilad_c.specs.declared.held.Held.TheVariants.{File, Folder, Packing}
use Rattle.kombilad_c.specs.Fill.{Variable, IsFilled, IsTooShort, IsUntouched}
use Rattle.kombilad_c.specs.Status.{file_status, file_place}

-- True if a walk has yet to take this range of the file of the root, within these limits.
pub record IsAtRoot (root : Link) (range : FileRange) (limits : FileLimits) (walk : FileWalk) : Type 0 where
  pub remains : remain_of walk ≡ whole root ∷ []
  pub top : HaveLevel 0 (parts_left walk)
  pub in_range : range_of walk.range ≡ range_of range
  pub within : walk.limits ≡ limits
  pub bytes : walk.bytes_left ≡ limits.bytes
  pub blocks : walk.blocks_left ≡ limits.blocks

-- True if the handle holds a walk over a file that satisfies `Q`.
abbrev pub HoldsFile : Option Held → (FileWalk → Type 0) → Type 0
HoldsFile None Q = ⊥
HoldsFile (Some (File walk)) Q = Q walk
HoldsFile (Some (Folder walk)) Q = ⊥
HoldsFile (Some (Packing packing)) Q = ⊥

-- True if the handle holds a walk that begins at the root, and the status is 0. Or an allocation
-- failed, and the handle is as before.
abbrev pub BeginsFile : Link → FileRange → FileLimits → (status : ℕ) → (old new : Option Held) → Type 0
BeginsFile root range limits status old new =
    ((status ≡ 0) × HoldsFile new (IsAtRoot root range limits)) ⊎ ((status ≡ 1) × (new ≡ old))

-- True if a walk took a block with these bytes of the file, they are at the beginning of the buffer,
-- and the status is 0.
pub record TakesHead (old new : FileWalk) (status : ℕ) (bytes : Variable (List ℕ)) (needed : ℕ) : Type 0 where
  pub head : List ℕ
  pub takes : Takes old new head
  pub counts : Counts old new head
  pub done : status ≡ 0
  pub filled : IsFilled head bytes.before bytes.after
  pub length_needed : needed ≡ length head

-- True if a walk did not take the block. The walk, the buffer and the needed length are as before.
-- The status and the offset are those of the error.
pub record Refuses (old new : FileWalk) (block : List ℕ) (status : ℕ) (bytes : Variable (List ℕ)) (needed offset : Variable ℕ) : Type 0 where
  pub error : PartError
  pub fault : WalkFault old block error
  pub failed : status ≡ file_status error
  pub place : offset.after ≡ file_place error
  pub stays : Stays old new
  pub untouched : IsUntouched bytes.before bytes.after needed.before needed.after

-- True if a walk took the block, or did not take it for an error. Or the buffer is shorter than the
-- block, the needed length is that of the block, the status is 2, and all else is as before.
abbrev pub TakesBlock :
    (old new : FileWalk) → (block : List ℕ) → (status : ℕ) → Variable (List ℕ) → (needed offset : Variable ℕ) → Type 0
TakesBlock old new block status bytes needed offset =
    (TakesHead old new status bytes needed.after × (offset.after ≡ offset.before))
    ⊎ Refuses old new block status bytes needed offset
    ⊎ ((status ≡ 2) × IsTooShort block bytes.before bytes.after × (needed.after ≡ length block) × (new ≡ old) × (offset.after ≡ offset.before))

-- True if the handle holds no walk over a file: the status is 193, and nothing is written.
abbrev pub IsClosed : (old new : Option Held) → (status : ℕ) → Variable (List ℕ) → (needed offset : Variable ℕ) → Type 0
IsClosed old new status bytes needed offset =
    (status ≡ 193) × (new ≡ old) × IsUntouched bytes.before bytes.after needed.before needed.after × (offset.after ≡ offset.before)

-- True if this is the result for what a handle holds.
abbrev pub TakesFrom :
    (old new : Option Held) → (block : List ℕ) → (status : ℕ) → Variable (List ℕ) → (needed offset : Variable ℕ) → Type 0
TakesFrom None new block status bytes needed offset = IsClosed None new status bytes needed offset
TakesFrom (Some (File walk)) new block status bytes needed offset = HoldsFile new (λ next. TakesBlock walk next block status bytes needed offset)
TakesFrom (Some (Folder walk)) new block status bytes needed offset = IsClosed (Some (Folder walk)) new status bytes needed offset
TakesFrom (Some (Packing packing)) new block status bytes needed offset = IsClosed (Some (Packing packing)) new status bytes needed offset

-- True if these bytes are at the beginning of the buffer, and the status is 0. Or an allocation
-- failed.
abbrev pub IsTaken : List ℕ → (status : ℕ) → (before after : List ℕ) → (needed : ℕ) → Type 0
IsTaken taken status before after needed =
    ((status ≡ 0) × IsFilled taken before after × (needed ≡ length taken)) ⊎ (status ≡ 1)
