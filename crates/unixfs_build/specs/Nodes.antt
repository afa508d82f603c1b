-- The nodes of plain folders, of shards and of symbolic links (UnixFS specification; DAG-PB
-- specification): each varint is the shortest, and a message has no field that its type doesn't need.
use Rattle.std.specs.Prelude.{◌+◌, ℕ, List, [], length, map, sum, option_map, unwrap_or, Option, Some, None}
use Rattle.ipld_cid.specs.Cid.{Link}
use Rattle.ipld_cid.specs.declared.cid.Version.{Version}
use Rattle.dag_pb.specs.Node.{LinkParts}
use Rattle.dag_pb.specs.Writing.{node_bytes}
use Rattle.unixfs.specs.declared.data.DataType.{DataType}
use Rattle.unixfs.specs.declared.data.DataType.TheVariants.{Directory, Symlink, HamtShard}
use Rattle.unixfs.specs.Data.{DataParts}
use Rattle.unixfs.specs.Views.{parts_of_time}
use Rattle.unixfs.specs.Writing.{data_bytes}
use Rattle.unixfs_folders.specs.Folders.{EntryParts, SlotParts, link_of_entry, link_of_slot, bit_field}
use Rattle.unixfs_build.specs.Blocks.{sha_link}
use Rattle.unixfs_build.specs.declared.layout.Attributes.{Attributes}

-- A node that was made: its CID, how many bytes its block has with all blocks below it, and the bytes
-- of the block.
pub record MadeNode : Type 0 where
  pub link : Link
  pub total : ℕ
  pub bytes : List ℕ

-- the size that a link claims, or 0 without one
abbrev pub tsize_of : LinkParts → ℕ
tsize_of link = unwrap_or link.tsize 0

-- how many bytes the blocks have to which these links lead
abbrev pub tsizes_of : List LinkParts → ℕ
tsizes_of links = sum (map tsize_of links)

-- the block of a node with this message and these links
unfoldable pub block_with : DataParts → List LinkParts → List ℕ
block_with message links = node_bytes (record { links = links; content = Some (data_bytes message) })

-- that node, with a CID of this version
unfoldable pub node_with : Version → DataParts → List LinkParts → MadeNode
node_with version message links = record {
  link = sha_link version 0x70 (block_with message links);
  total = length (block_with message links) + tsizes_of links;
  bytes = block_with message links;
}

-- a message of this type, which has neither sizes of files nor a size of its own
abbrev pub message_with : Attributes → DataType → (content : Option (List ℕ)) → (hash_type fanout : Option ℕ) → DataParts
message_with attributes data_type content hash_type fanout = record {
  data_type = data_type;
  content = content;
  filesize = None;
  blocksizes = [];
  hash_type = hash_type;
  fanout = fanout;
  mode = attributes.mode;
  mtime = option_map parts_of_time attributes.mtime;
}

-- the message of a plain folder
abbrev pub plain_message : Attributes → DataParts
plain_message attributes = message_with attributes Directory None None None

-- the node of a plain folder with these entries
abbrev pub plain_node : Version → Attributes → List EntryParts → MadeNode
plain_node version attributes entries = node_with version (plain_message attributes) (map link_of_entry entries)

-- the message of a symbolic link to this target
abbrev pub symlink_message : Attributes → (target : List ℕ) → DataParts
symlink_message attributes target = message_with attributes Symlink (Some target) None None

-- the node of that symbolic link
abbrev pub symlink_node : Version → Attributes → List ℕ → MadeNode
symlink_node version attributes target = node_with version (symlink_message attributes target) []

-- the message of a shard with these slots: the hash function is murmur3-x64-64 (0x22), and the data
-- are the bit field
abbrev pub shard_message : Attributes → List SlotParts → DataParts
shard_message attributes slots = message_with attributes HamtShard (Some (bit_field slots)) (Some 0x22) (Some 256)

-- the node of a shard with these slots
abbrev pub shard_node : Version → Attributes → List SlotParts → MadeNode
shard_node version attributes slots = node_with version (shard_message attributes slots) (map link_of_slot slots)
