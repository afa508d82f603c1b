-- The folder that is made of entries.
use Rattle.std.specs.Prelude.{◌≡◌, ◌⊎◌, ◌+◌, ◌<◌, ◌≤◌, ◌^◌, ℕ, suc, nat_lt, true, false, if◌then◌else◌, List, [], ◌∷◌, length, map, sum, Option, Some, None}
use Rattle.ipld_cid.specs.Bytes.{bytes_of}
use Rattle.ipld_cid.specs.declared.cid.Version.{Version}
use Rattle.unixfs_folders.specs.Folders.{EntryParts, ComesAfter}
use Rattle.unixfs_folders.specs.Names.{is_entry_name}
use Rattle.unixfs_build.specs.Blocks.{no_attributes}
use Rattle.unixfs_build.specs.Faults.{IsEncodeFault}
use Rattle.unixfs_build.specs.Nodes.{MadeNode, plain_node}
use Rattle.unixfs_build.specs.Shards.{shard_root, shard_below, HaveSameHash}
use Rattle.unixfs_build.specs.declared.error.BuildError.{BuildError}
use Rattle.unixfs_build.specs.declared.error.BuildError.TheVariants.{Memory, TooLarge, InvalidName, NameOrder, SameHash}
use Rattle.unixfs_build.specs.declared.layout.Attributes.{Attributes}

-- how many bytes the name and the CID of an entry have
abbrev pub listed_size : EntryParts → ℕ
listed_size e = length e.name + length (bytes_of e.link)

-- how many bytes the names and the CIDs of entries have altogether
abbrev pub listed_sizes : List EntryParts → ℕ
listed_sizes entries = sum (map listed_size entries)

-- the root of a folder: a shard if the names and the CIDs have more bytes than `above`
unfoldable pub folder_root : Version → Attributes → (above : ℕ) → List EntryParts → MadeNode
folder_root version attributes above entries =
    if nat_lt above (listed_sizes entries) then shard_root 8 version attributes entries else plain_node version attributes entries

-- the nodes below the root of that folder
unfoldable pub folder_below : Version → (above : ℕ) → List EntryParts → List MadeNode
folder_below version above entries = if nat_lt above (listed_sizes entries) then shard_below 8 version entries else []

-- the nodes of that folder, from the root down
abbrev pub folder_nodes : Version → Attributes → (above : ℕ) → List EntryParts → List MadeNode
folder_nodes version attributes above entries = folder_root version attributes above entries ∷ folder_below version above entries

-- True if this is the first thing that is wrong with a name, from the left. The first of the entries
-- has this index, and `before` is the name before it.
abbrev pub IsNameFault : (index : ℕ) → (before : Option (List ℕ)) → List EntryParts → BuildError → Type 0
IsNameFault index before [] error = ⊥
IsNameFault index before (e ∷ es) error =
    ((error ≡ InvalidName index) × (is_entry_name e.name ≡ false))
    ⊎ (((error ≡ NameOrder index) × (is_entry_name e.name ≡ true) × (ComesAfter before e.name → ⊥))
    ⊎ ((is_entry_name e.name ≡ true) × ComesAfter before e.name × IsNameFault (suc index) (Some e.name) es error))

-- True if a node with these attributes isn't made for this reason.
pub data IsNodeFault (attributes : Attributes) (node : MadeNode) (error : BuildError) : Type 0 where
  node_not_encoded : IsEncodeFault attributes error → IsNodeFault attributes node error
  node_too_large : error ≡ TooLarge → 2 ^ 64 ≤ node.total → IsNodeFault attributes node error

-- True if a shard with these entries isn't made for this reason.
pub data IsShardFault (levels : ℕ) (version : Version) (attributes : Attributes) (entries : List EntryParts) (error : BuildError) : Type 0 where
  shard_not_made : IsNodeFault attributes (shard_root levels version attributes entries) error → IsShardFault levels version attributes entries error
  shard_same_hash : error ≡ SameHash → HaveSameHash entries → IsShardFault levels version attributes entries error

-- True if what a slot with these entries has isn't made for this reason.
abbrev pub IsSlotFault : (levels : ℕ) → Version → List EntryParts → BuildError → Type 0
IsSlotFault levels version entries error = (error ≡ Memory) ⊎ ((1 < length entries) × IsShardFault levels version no_attributes entries error)

-- True if a folder isn't made of these entries for this reason.
pub data IsFolderFault (version : Version) (attributes : Attributes) (above : ℕ) (entries : List EntryParts) (error : BuildError) : Type 0 where
  bad_name : IsNameFault 0 None entries error → IsFolderFault version attributes above entries error
  root_not_made : IsNodeFault attributes (folder_root version attributes above entries) error → IsFolderFault version attributes above entries error
  same_hash : error ≡ SameHash → above < listed_sizes entries → HaveSameHash entries → IsFolderFault version attributes above entries error
