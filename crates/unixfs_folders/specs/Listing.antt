-- The entries of a folder, block by block.
use Rattle.std.specs.Prelude.{◌≡◌, ◌⊎◌, ◌<◌, ◌==◌, ℕ, suc, nat_lt, if◌then◌else◌, List, [], ◌∷◌, ◌++◌, length, take, bytes_eq, Option, Some, None, IfSome, Result, Ok, Err}
use Rattle.ipld_block.specs.Digest.{digest_by}
use Rattle.ipld_cid.specs.Cid.{Link}
use Rattle.pb_wire.specs.Steps.{◌>>=◌}
use Rattle.unixfs.specs.Files.{Hashing}
use Rattle.unixfs_folders.specs.declared.error.FolderErrorKind.{FolderErrorKind}
use Rattle.unixfs_folders.specs.declared.error.FolderErrorKind.TheVariants.{NotShard, WrongSlot, TooDeep, Finished}
use Rattle.unixfs_folders.specs.Faults.{IsFolderFault}
use Rattle.unixfs_folders.specs.Folders.{EntryParts, SlotParts, FolderParts, plain, shard, IsFolderIn, hash_of}

-- a folder or a shard whose entries are still to be listed: its CID, and the slots that lead to it
-- from the root
pub record Waiting : Type 0 where
  pub link : Link
  pub path : List ℕ

-- the root, to which no slot leads
abbrev pub from_root : Link → Waiting
from_root root = record { link = root; path = [] }

-- the CID of what comes next
abbrev pub first_link : List Waiting → Option Link
first_link [] = None
first_link (w ∷ ws) = Some w.link

-- True if the hash of the name begins with these slots.
abbrev pub IsLedTo : (path : List ℕ) → List ℕ → Type 0
IsLedTo path name = take (length path) (hash_of name) ≡ path

-- True if the hash of each entry in the shard of this path leads there.
abbrev pub AllStand : (path : List ℕ) → List SlotParts → Type 0
AllStand path [] = Unit {0}
AllStand path (s ∷ ss) = IfSome s.name (IsLedTo (path ++ s.slot ∷ [])) × AllStand path ss

-- the entry of a slot, if it has one, before the others
abbrev pub and_entry : Option (List ℕ) → SlotParts → List EntryParts → List EntryParts
and_entry None s es = es
and_entry (Some name) s es = record { name = name; link = s.link; tsize = s.tsize } ∷ es

-- the entries of these slots
abbrev pub entries_of : List SlotParts → List EntryParts
entries_of [] = []
entries_of (s ∷ ss) = and_entry s.name s (entries_of ss)

-- the shard of a slot, if it has one, before the others
abbrev pub and_shard : (path : List ℕ) → Option (List ℕ) → SlotParts → List Waiting → List Waiting
and_shard path None s ws = record { link = s.link; path = path ++ s.slot ∷ [] } ∷ ws
and_shard path (Some name) s ws = ws

-- the shards to which these slots lead
abbrev pub shards_of : (path : List ℕ) → List SlotParts → List Waiting
shards_of path [] = []
shards_of path (s ∷ ss) = and_shard path s.name s (shards_of path ss)

-- True if a hash has a slot for each of these shards: fewer than eight lead there.
abbrev pub AllFit : List Waiting → Type 0
AllFit [] = Unit {0}
AllFit (w ∷ ws) = (length w.path < 8) × AllFit ws

-- True if the folder may stand where it waited, and has these entries itself, and these shards
-- below it. A plain folder stands only at the root. In a shard the hash of each entry leads there.
abbrev pub IsVisit : Waiting → FolderParts → List EntryParts → List Waiting → Type 0
IsVisit next (plain es) entries below = (next.path ≡ []) × (entries ≡ es) × (below ≡ [])
IsVisit next (shard ss) entries below = AllStand next.path ss × (entries ≡ entries_of ss) × (below ≡ shards_of next.path ss) × AllFit below

-- True if the block is that of the folder or shard, which has these entries itself, and these
-- shards below it.
pub record Visits (hashing : Hashing) (next : Waiting) (block : List ℕ) (entries : List EntryParts) (below : List Waiting) : Type 0 where
  pub folder : FolderParts
  pub is_folder : IsFolderIn hashing next.link block folder
  pub is_visit : IsVisit next folder entries below

-- True if the block of what came next was taken: its entries were listed, and the shards below it
-- take its place.
pub record Takes (hashing : Hashing) (old new : List Waiting) (block : List ℕ) (entries : List EntryParts) : Type 0 where
  pub next : Waiting
  pub others : List Waiting
  pub below : List Waiting
  pub is_next : old ≡ next ∷ others
  pub visits : Visits hashing next block entries below
  pub remain : new ≡ below ++ others

-- How far a listing of a folder has come: the entries that it listed, and what remains.
pub data Lists (hashing : Hashing) (root : Link) : List EntryParts → List Waiting → Type 0 where
  lists_none : {listed : List EntryParts} {remain : List Waiting} → listed ≡ [] → remain ≡ from_root root ∷ [] → Lists hashing root listed remain
  lists_more : {listed : List EntryParts} {remain : List Waiting} (before : List EntryParts) (old : List Waiting) (block : List ℕ) (entries : List EntryParts)
      → Lists hashing root before old → Takes hashing old remain block entries → listed ≡ before ++ entries → Lists hashing root listed remain

-- ---- the result of a visit

-- the entries and the shards of a visit
pub record VisitParts : Type 0 where
  pub entries : List EntryParts
  pub below : List Waiting

-- those of one visit before those of another
abbrev pub joined : VisitParts → VisitParts → VisitParts
joined v w = record { entries = v.entries ++ w.entries; below = v.below ++ w.below }

-- the visits before, and those of a result
abbrev pub then_joined : VisitParts → Result VisitParts FolderErrorKind → Result VisitParts FolderErrorKind
then_joined v r = r >>= λ w. Ok (joined v w)

-- what the link with this index adds; `place` are the slots that lead to what it links
unfoldable pub visited_by : (index : ℕ) → (place : List ℕ) → Option (List ℕ) → SlotParts → Result VisitParts FolderErrorKind
visited_by index place None s =
    if nat_lt (length place) 8 then Ok (record { entries = []; below = record { link = s.link; path = place } ∷ [] })
    else Err TooDeep
visited_by index place (Some name) s =
    if bytes_eq (take (length place) (hash_of name)) place then Ok (record { entries = record { name = name; link = s.link; tsize = s.tsize } ∷ []; below = [] })
    else Err (WrongSlot index)

-- what a link of the shard at this path adds
unfoldable pub visited_one : (index : ℕ) → (path : List ℕ) → SlotParts → Result VisitParts FolderErrorKind
visited_one index path s = visited_by index (path ++ s.slot ∷ []) s.name s

-- what these links of the shard at this path add, of which the first has this index
abbrev pub visited_from : (index : ℕ) → (path : List ℕ) → List SlotParts → Result VisitParts FolderErrorKind
visited_from index path [] = Ok (record { entries = []; below = [] })
visited_from index path (s ∷ ss) = visited_one index path s >>= λ v. then_joined v (visited_from (suc index) path ss)

-- The visit of a folder at this path, or the error: a plain folder stands only at the root.
unfoldable pub visited : (path : List ℕ) → FolderParts → Result VisitParts FolderErrorKind
visited path (plain es) = if length path == 0 then Ok (record { entries = es; below = [] }) else Err NotShard
visited path (shard ss) = visited_from 0 path ss

-- True if the block is that of the folder or shard, which does not stand where it waited, for this
-- reason.
pub record IsPlaceFault (next : Waiting) (block : List ℕ) (error : FolderErrorKind) : Type 0 where
  pub folder : FolderParts
  pub is_folder : IsFolderIn digest_by next.link block folder
  pub is : visited next.path folder ≡ Err error

-- True if this is the reason why a listing doesn't take a block.
abbrev pub IsListingFault : List Waiting → List ℕ → FolderErrorKind → Type 0
IsListingFault [] block error = error ≡ Finished
IsListingFault (next ∷ others) block error = IsFolderFault next.link block error ⊎ IsPlaceFault next block error
