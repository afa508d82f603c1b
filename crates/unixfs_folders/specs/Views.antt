-- The models of folders, entries and slots, and the errors of memory.
use Rattle.std.specs.Prelude.{map, option_map}
use Rattle.ipld_cid.specs.LinkOf.{link_of}
use Rattle.unixfs.specs.Nodes.{IsNodeMemory}
use Rattle.unixfs_folders.specs.declared.error.FolderErrorKind.{FolderErrorKind}
use Rattle.unixfs_folders.specs.declared.error.FolderErrorKind.TheVariants.{Memory, Codec, Verify, Node, NotFolder, HashFunction, Fanout, InvalidName, NameOrder, InvalidSlot, SlotOrder, BitField, NotShard, WrongSlot, TooDeep, Finished}
use Rattle.unixfs_folders.specs.declared.folder.Folder.{Folder}
use Rattle.unixfs_folders.specs.declared.folder.Folder.TheVariants.{Plain, Shard}
use Rattle.unixfs_folders.specs.declared.folder.FolderEntry.{FolderEntry}
use Rattle.unixfs_folders.specs.declared.folder.ShardLink.{ShardLink}
use Rattle.unixfs_folders.specs.declared.folder.SlotName.{SlotName}
use Rattle.unixfs_folders.specs.Folders.{EntryParts, SlotParts, FolderParts, plain, shard}
use Rattle.unixfs_folders.specs.Reading.{Place}

-- the model of an entry
abbrev pub entry_parts : FolderEntry → EntryParts
entry_parts e = record { name = e.name.now; link = link_of e.cid; tsize = e.tsize }

-- the model of a link in a shard
abbrev pub slot_parts : ShardLink → SlotParts
slot_parts s = record { slot = s.slot; name = option_map (λ name. name.now) s.name; link = link_of s.cid; tsize = s.tsize }

-- the model of the name of a link in a shard
abbrev pub place_parts : SlotName → Place
place_parts p = record { slot = p.slot; name = option_map (λ name. name.now) p.name }

-- the model of a folder
abbrev pub folder_parts : Folder → FolderParts
folder_parts (Plain entries) = plain (map entry_parts entries.items)
folder_parts (Shard links) = shard (map slot_parts links.items)

-- True if the error is that of a failed allocation.
abbrev pub IsMemory : FolderErrorKind → Type 0
IsMemory Memory = Unit {0}
IsMemory (Codec code) = ⊥
IsMemory (Verify error) = ⊥
IsMemory (Node error) = IsNodeMemory error
IsMemory (NotFolder kind) = ⊥
IsMemory HashFunction = ⊥
IsMemory Fanout = ⊥
IsMemory (InvalidName index) = ⊥
IsMemory (NameOrder index) = ⊥
IsMemory (InvalidSlot index) = ⊥
IsMemory (SlotOrder index) = ⊥
IsMemory BitField = ⊥
IsMemory NotShard = ⊥
IsMemory (WrongSlot index) = ⊥
IsMemory TooDeep = ⊥
IsMemory Finished = ⊥
