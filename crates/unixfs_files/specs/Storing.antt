-- The bytes that are written for a file.
use Rattle.std.specs.Prelude.{◌≡◌, ◌⊎◌, ◌≤◌, ℕ, List, [], ◌∷◌, length, Option}
use Rattle.std.specs.Io.KnownBytes.{Appends}
use Rattle.ipld_block.specs.Digest.{digest_by}
use Rattle.ipld_cid.specs.Cid.{Link}
use Rattle.ipld_cid.specs.LinkOf.{link_of}
use Rattle.unixfs.specs.Files.{Child, Collision, Names, Range, everything, slice, Walks}
use Rattle.unixfs_files.specs.declared.state.FileWalk.{FileWalk}
use Rattle.unixfs_files.specs.declared.store.FileError.{FileError}
use Rattle.unixfs_files.specs.declared.store.FileErrorKind.{FileErrorKind}
use Rattle.unixfs_files.specs.declared.store.FileErrorKind.TheVariants.{Missing, Part, Store, Write}
use Rattle.unixfs_files.specs.Walking.{remain_of, WalkFault}

-- True if the range of the file was written, and nothing else: bytes that a walk to the end took, no
-- more than the limit. Of a whole file they are bytes that the root names. Whatever content the root
-- names, they are the range in it, unless two blocks that differ have one digest.
pub record WritesFile (root : Link) (range : Range) (limit : ℕ) (old new : Option (List ℕ)) : Type 0 where
  pub bytes : List ℕ
  pub left : Range
  pub walks : Walks digest_by root range bytes [] left
  pub named : range ≡ everything → Names digest_by root bytes
  pub is_slice : (content : List ℕ) → Names digest_by root content → (bytes ≡ slice range content) ⊎ Collision digest_by
  pub within : length bytes ≤ limit
  pub appends : Appends old new bytes

-- True if these bytes were written. A writer that fails may have taken more.
abbrev pub Wrote : {E : Type 0} → FileErrorKind E → (old new : Option (List ℕ)) → List ℕ → Type 0
Wrote Missing old new taken = Appends old new taken
Wrote (Part error) old new taken = Appends old new taken
Wrote (Store fault) old new taken = Appends old new taken
Wrote (Write error) old new taken = (between : Option (List ℕ)) × Appends old between taken

-- True if a walk that has these parts left does not take some block for this reason.
abbrev pub IsReason : {E : Type 0} → FileErrorKind E → List Child → Type 0
IsReason Missing remain = Unit {0}
IsReason (Part error) remain = (walk : FileWalk) × (block : List ℕ) × (remain_of walk ≡ remain) × WalkFault walk block error
IsReason (Store fault) remain = Unit {0}
IsReason (Write error) remain = Unit {0}

-- True if a beginning of the range was written, and nothing else: what a walk from the root took
-- before it came to the CID of the error.
pub record StopsAt {E : Type 0} (root : Link) (range : Range) (limit : ℕ) (old new : Option (List ℕ)) (error : FileError E) : Type 0 where
  pub taken : List ℕ
  pub size : Option ℕ
  pub others : List Child
  pub left : Range
  pub walks : Walks digest_by root range taken (record { link = link_of error.cid; size = size } ∷ others) left
  pub within : length taken ≤ limit
  pub wrote : Wrote error.kind old new taken
  pub reason : IsReason error.kind (record { link = link_of error.cid; size = size } ∷ others)
