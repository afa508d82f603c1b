-- The blocks of a file (UnixFS specification; DAG-PB specification) that `ipfs add` makes: each
-- varint is the shortest, each link has an empty name and its Tsize, and a message has its filesize.
use Rattle.std.specs.Prelude.{◌⊎◌, ◌+◌, ◌≤◌, ◌^◌, ℕ, Bool, List, [], ◌∷◌, length, map, sum, option_map, is_none, Option, Some, None, if◌then◌else◌, ◌&&◌}
use Rattle.sha2.specs.Sha256.{sha256}
use Rattle.ipld_block.specs.Digest.{digest_by}
use Rattle.ipld_cid.specs.Cid.{Link}
use Rattle.ipld_cid.specs.declared.cid.Version.{Version}
use Rattle.ipld_cid.specs.declared.cid.Version.TheVariants.{V1}
use Rattle.dag_pb.specs.Node.{LinkParts}
use Rattle.dag_pb.specs.Writing.{node_bytes}
use Rattle.unixfs.specs.declared.data.DataType.TheVariants.{File}
use Rattle.unixfs.specs.Data.{DataParts}
use Rattle.unixfs.specs.Files.{Child, IsPart}
use Rattle.unixfs.specs.Views.{parts_of_time}
use Rattle.unixfs.specs.Writing.{data_bytes}
use Rattle.unixfs_build.specs.declared.layout.Attributes.{Attributes}
use Rattle.unixfs_build.specs.declared.layout.Layout.{Layout}

-- A part of a file that was made: the CID of its block, how many bytes of the file it has, and how many
-- bytes the block has, with all blocks below it.
pub record Built : Type 0 where
  pub link : Link
  pub size : ℕ
  pub total : ℕ

-- a part, with the bytes of its block
pub record BuiltBlock : Type 0 where
  pub part : Built
  pub bytes : List ℕ

-- how many bytes of the file each part has, and how many bytes its blocks have
abbrev pub sizes_of : List Built → List ℕ
sizes_of parts = map (λ (part : Built). part.size) parts

abbrev pub totals_of : List Built → List ℕ
totals_of parts = map (λ (part : Built). part.total) parts

-- the CID of a block of this codec: it has the block's SHA2-256 digest
abbrev pub sha_link : Version → (codec : ℕ) → List ℕ → Link
sha_link version codec block = record { version = version; codec = codec; code = 0x12; digest = sha256 block }

-- the link to a part
abbrev pub link_to : Built → LinkParts
link_to part = record { hash = part.link; name = Some []; tsize = Some part.total }

-- the child of a node that a part is
abbrev pub child_of : Built → Child
child_of part = record { link = part.link; size = Some part.size }

-- bytes, or nothing if there are none
abbrev pub if_any : List ℕ → Option (List ℕ)
if_any [] = None
if_any (b ∷ bs) = Some (b ∷ bs)

-- no permissions and no time
abbrev pub no_attributes : Attributes
no_attributes = record { mode = None; mtime = None }

-- whether there are neither permissions nor a time
abbrev pub has_none : Attributes → Bool
has_none attributes = is_none attributes.mode && is_none attributes.mtime

-- the message of a node that has these bytes of the file, and links to these parts
abbrev pub file_message : Attributes → List ℕ → List Built → DataParts
file_message attributes head parts = record {
  data_type = File;
  content = if_any head;
  filesize = Some (length head + sum (sizes_of parts));
  blocksizes = sizes_of parts;
  hash_type = None;
  fanout = None;
  mode = attributes.mode;
  mtime = option_map parts_of_time attributes.mtime;
}

-- the block of that node
unfoldable pub file_block : Attributes → List ℕ → List Built → List ℕ
file_block attributes head parts = node_bytes (record { links = map link_to parts; content = Some (data_bytes (file_message attributes head parts)) })

-- the node that has these bytes of the file and links to these parts, with a CID of this version
unfoldable pub node_of : Version → Attributes → List ℕ → List Built → BuiltBlock
node_of version attributes head parts = record {
  part = record {
    link = sha_link version 0x70 (file_block attributes head parts);
    size = length head + sum (sizes_of parts);
    total = sum (totals_of parts) + length (file_block attributes head parts);
  };
  bytes = file_block attributes head parts;
}

-- the block of the codec `raw` that is a chunk
unfoldable pub raw_leaf : List ℕ → BuiltBlock
raw_leaf chunk = record { part = record { link = sha_link V1 0x55 chunk; size = length chunk; total = length chunk }; bytes = chunk }

-- the leaf of a chunk
unfoldable pub leaf_of : Layout → Attributes → List ℕ → BuiltBlock
leaf_of layout attributes chunk = if layout.raw_leaves && has_none attributes then raw_leaf chunk else node_of layout.version attributes chunk []

-- the node over parts that isn't the root
abbrev pub node_over : Layout → List Built → BuiltBlock
node_over layout parts = node_of layout.version no_attributes [] parts

-- True if a part, or its blocks, have 2^64 bytes or more.
abbrev pub IsTooLarge : Built → Type 0
IsTooLarge part = (2 ^ 64 ≤ part.size) ⊎ (2 ^ 64 ≤ part.total)

-- True if whoever reads the block of a part finds that it has these bytes of the file, and links to
-- these parts.
abbrev pub Holds : Built → List ℕ → List Built → Type 0
Holds part head parts = IsPart digest_by part.link head (map child_of parts) part.size
