-- The result of reading a folder: its parts, or the first error from the left.
use Rattle.std.specs.Prelude.{◌==◌, ℕ, suc, nat_lt, not, true, false, Bool, if◌then◌else◌, List, [], ◌∷◌, length, bytes_eq, unwrap_or, Option, Some, None, Result, Ok, Err}
use Rattle.dag_pb.specs.Node.{LinkParts}
use Rattle.pb_wire.specs.Steps.{◌>>=◌, with_error}
use Rattle.unixfs.specs.declared.data.DataType.{DataType}
use Rattle.unixfs.specs.declared.data.DataType.TheVariants.{Raw, Directory, File, Metadata, Symlink, HamtShard}
use Rattle.unixfs.specs.Data.{DataParts}
use Rattle.unixfs.specs.Nodes.{UnixFsParts, read_unixfs}
use Rattle.unixfs_folders.specs.declared.error.FolderErrorKind.{FolderErrorKind}
use Rattle.unixfs_folders.specs.declared.error.FolderErrorKind.TheVariants.{Node, NotFolder, HashFunction, Fanout, InvalidName, NameOrder, InvalidSlot, SlotOrder, BitField}
use Rattle.unixfs_folders.specs.Names.{is_entry_name, comes_before, slot_in, after_digits}
use Rattle.unixfs_folders.specs.Folders.{EntryParts, SlotParts, bit_field, FolderParts, plain, shard}

-- ---- plain folders

-- whether the name comes after the one before it, if there is one
unfoldable pub comes_after : Option (List ℕ) → List ℕ → Bool
comes_after None name = true
comes_after (Some before) name = comes_before before name

-- the name of an entry, if it is valid and in order; `index` is that of its link
unfoldable pub checked_name : (index : ℕ) → (before : Option (List ℕ)) → List ℕ → Result (List ℕ) FolderErrorKind
checked_name index before name =
    if not (is_entry_name name) then Err (InvalidName index)
    else if not (comes_after before name) then Err (NameOrder index)
    else Ok name

-- the name of a link, if it is valid and in order
unfoldable pub entry_name : (index : ℕ) → (before : Option (List ℕ)) → Option (List ℕ) → Result (List ℕ) FolderErrorKind
entry_name index before None = Err (InvalidName index)
entry_name index before (Some name) = checked_name index before name

-- the entries of these links, of which the first has this index; `before` is the name before it
abbrev pub entries_from : (index : ℕ) → (before : Option (List ℕ)) → List LinkParts → Result (List EntryParts) FolderErrorKind
entries_from index before [] = Ok []
entries_from index before (l ∷ ls) =
    entry_name index before l.name >>= λ name.
    entries_from (suc index) (Some name) ls >>= λ es.
    Ok (record { name = name; link = l.hash; tsize = l.tsize } ∷ es)

-- ---- shards

-- the name of an entry in a shard, or nothing for a shard below
unfoldable pub slot_name : (index : ℕ) → List ℕ → Result (Option (List ℕ)) FolderErrorKind
slot_name index name =
    if length name == 0 then Ok None
    else if is_entry_name name then Ok (Some name)
    else Err (InvalidName index)

-- the slot with which a name begins, if it is from `least` on
unfoldable pub slot_number : (index least : ℕ) → Option ℕ → Result ℕ FolderErrorKind
slot_number index least None = Err (InvalidSlot index)
slot_number index least (Some slot) = if nat_lt slot least then Err (SlotOrder index) else Ok slot

-- a slot of a shard, and the name of its entry
pub record Place : Type 0 where
  pub slot : ℕ
  pub name : Option (List ℕ)

-- the place that the name of a link says
unfoldable pub place_of : (index least : ℕ) → Option (List ℕ) → Result Place FolderErrorKind
place_of index least None = Err (InvalidSlot index)
place_of index least (Some name) =
    slot_number index least (slot_in name) >>= λ slot.
    slot_name index (after_digits name) >>= λ entry.
    Ok (record { slot = slot; name = entry })

-- the slots of these links, of which the first has this index, from the slot `least` on
abbrev pub slots_from : (index least : ℕ) → List LinkParts → Result (List SlotParts) FolderErrorKind
slots_from index least [] = Ok []
slots_from index least (l ∷ ls) =
    place_of index least l.name >>= λ place.
    slots_from (suc index) (suc place.slot) ls >>= λ ss.
    Ok (record { slot = place.slot; name = place.name; link = l.hash; tsize = l.tsize } ∷ ss)

-- ---- folders

-- the plain folder of these links
unfoldable pub plain_of : List LinkParts → Result FolderParts FolderErrorKind
plain_of links = entries_from 0 None links >>= λ entries. Ok (plain entries)

-- the shard of these slots, if these bytes are its bit field
unfoldable pub with_bits : List ℕ → List SlotParts → Result FolderParts FolderErrorKind
with_bits bits slots = if bytes_eq bits (bit_field slots) then Ok (shard slots) else Err BitField

-- the shard of these links, if these bytes are its bit field
abbrev pub slots_of : List LinkParts → List ℕ → Result FolderParts FolderErrorKind
slots_of links bits = slots_from 0 0 links >>= with_bits bits

-- whether the number of a field is this one
abbrev pub is_number : ℕ → Option ℕ → Bool
is_number n None = false
is_number n (Some m) = m == n

-- the shard of these links and this message
unfoldable pub shard_of : List LinkParts → DataParts → Result FolderParts FolderErrorKind
shard_of links message =
    if not (is_number 0x22 message.hash_type) then Err HashFunction
    else if not (is_number 256 message.fanout) then Err Fanout
    else slots_of links (unwrap_or message.content [])

-- the folder of these links and this message, which has this type
abbrev pub folder_by : DataType → List LinkParts → DataParts → Result FolderParts FolderErrorKind
folder_by Raw links message = Err (NotFolder Raw)
folder_by Directory links message = plain_of links
folder_by File links message = Err (NotFolder File)
folder_by Metadata links message = Err (NotFolder Metadata)
folder_by Symlink links message = Err (NotFolder Symlink)
folder_by HamtShard links message = shard_of links message

-- the folder of a node
unfoldable pub folder_of : UnixFsParts → Result FolderParts FolderErrorKind
folder_of node = folder_by node.message.data_type node.links node.message

-- The folder that reading returns, or its error.
unfoldable pub read_folder : List ℕ → Result FolderParts FolderErrorKind
read_folder block = with_error Node (read_unixfs block) >>= folder_of
