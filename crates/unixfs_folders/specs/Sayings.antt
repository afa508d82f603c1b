-- What the block of a folder, or of a part of one, says of a name.
use Rattle.std.specs.Prelude.{◌≡◌, ◌⊎◌, ◌==◌, ℕ, nat_lt, if◌then◌else◌, List, [], ◌∷◌, slice_index, bytes_eq, Option, Some, None, Result, Ok, Err}
use Rattle.ipld_block.specs.Digest.{digest_by}
use Rattle.ipld_cid.specs.Cid.{Link}
use Rattle.unixfs.specs.Files.{Hashing}
use Rattle.unixfs_folders.specs.declared.error.FolderErrorKind.{FolderErrorKind}
use Rattle.unixfs_folders.specs.declared.error.FolderErrorKind.TheVariants.{NotShard, TooDeep}
use Rattle.unixfs_folders.specs.Faults.{IsFolderFault}
use Rattle.unixfs_folders.specs.Folders.{EntryParts, SlotParts, FolderParts, plain, shard, IsFolderIn, hash_of}

-- what a folder, or a part of one, says of a name: the entry, none, or the shard below that may
-- have it
pub data Saying : Type 0 where
  entry : Link → Saying
  nothing : Saying
  deeper : Link → Saying

-- the entry with this name among those of a plain folder
abbrev pub named : List ℕ → List EntryParts → Saying
named name [] = nothing
named name (e ∷ es) = if bytes_eq e.name name then entry e.link else named name es

-- what a link with this name says; `depth` is that of its shard
unfoldable pub said_by : List ℕ → (depth : ℕ) → Option (List ℕ) → Link → Result Saying FolderErrorKind
said_by name depth None link = if nat_lt depth 7 then Ok (deeper link) else Err TooDeep
said_by name depth (Some other) link = if bytes_eq other name then Ok (entry link) else Ok nothing

-- what this slot of a shard says
abbrev pub said_in : List ℕ → (depth slot : ℕ) → List SlotParts → Result Saying FolderErrorKind
said_in name depth slot [] = Ok nothing
said_in name depth slot (s ∷ ss) = if s.slot == slot then said_by name depth s.name s.link else said_in name depth slot ss

-- What the folder at this depth says of a name, or the error: a plain folder stands only at the
-- root, and a shard at most seven levels below it.
unfoldable pub said : List ℕ → (depth : ℕ) → FolderParts → Result Saying FolderErrorKind
said name depth (plain es) = if depth == 0 then Ok (named name es) else Err NotShard
said name depth (shard ss) = said_in name depth (slice_index (hash_of name) depth) ss

-- True if the block is that of the CID, and the folder in it says this of a name.
pub record Says (hashing : Hashing) (at : Link) (name : List ℕ) (depth : ℕ) (block : List ℕ) (saying : Saying) : Type 0 where
  pub folder : FolderParts
  pub is_folder : IsFolderIn hashing at block folder
  pub is_said : said name depth folder ≡ Ok saying

-- True if the block is that of the CID, and the folder in it stands at the wrong depth.
pub record IsDepthFault (at : Link) (name : List ℕ) (depth : ℕ) (block : List ℕ) (error : FolderErrorKind) : Type 0 where
  pub folder : FolderParts
  pub is_folder : IsFolderIn digest_by at block folder
  pub is : said name depth folder ≡ Err error

-- True if the block isn't taken for the folder of the CID at this depth, for this reason.
abbrev pub IsFault : Link → List ℕ → (depth : ℕ) → List ℕ → FolderErrorKind → Type 0
IsFault at name depth block error = IsFolderFault at block error ⊎ IsDepthFault at name depth block error
