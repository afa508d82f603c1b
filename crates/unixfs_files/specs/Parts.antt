-- The part of a file that is in one block, and the reasons why a block is none.
use Rattle.std.specs.Prelude.{◌≡◌, ◌⊎◌, ◌==◌, ◌+◌, ◌^◌, ℕ, Bool, true, false, nat_lt, if◌then◌else◌, List, [], length, map, sum, unwrap_or, Option, Some, None, Result, Ok, Err}
use Rattle.ipld_cid.specs.Cid.{Link}
use Rattle.ipld_block.specs.Digest.{digest_by, IsVerifyError}
use Rattle.ipld_block.specs.declared.block_cid.error.VerifyError.{VerifyError}
use Rattle.dag_pb.specs.Node.{LinkParts}
use Rattle.dag_pb.specs.Views.{parts_of_link}
use Rattle.pb_wire.specs.Steps.{◌>>=◌, with_error}
use Rattle.unixfs.specs.declared.data.DataType.{DataType}
use Rattle.unixfs.specs.declared.data.DataType.TheVariants.{Raw, Directory, File, Metadata, Symlink, HamtShard}
use Rattle.unixfs.specs.Data.{DataParts}
use Rattle.unixfs.specs.Files.{Child, IsBlockOf, IsFileOf, children_of}
use Rattle.unixfs.specs.Nodes.{UnixFsParts, IsParsed, read_unixfs}
use Rattle.unixfs_files.specs.declared.error.PartError.{PartError}
use Rattle.unixfs_files.specs.declared.error.PartError.TheVariants.{Memory, Verify, Codec, NotFile, SizeCount, FileSize, TooLarge}
use Rattle.unixfs_files.specs.declared.part.FilePart.{FilePart}
use Rattle.unixfs_files.specs.ErrorNames.{kind_of_node}

-- a part of a file: its own bytes, its children, and how many bytes it stands for
pub record Part : Type 0 where
  pub head : List ℕ
  pub children : List Child
  pub size : ℕ

-- the model of a part
abbrev pub part_of : FilePart → Part
part_of p = record { head = p.head.now; children = children_of (map parts_of_link p.links.items) p.sizes.items; size = p.size }

-- True if a block of this codec is this part of a file, whatever its digest.
pub data IsPartIn (codec : ℕ) (block : List ℕ) (part : Part) : Type 0 where
  raw : codec ≡ 0x55 → part ≡ record { head = block; children = []; size = length block } → IsPartIn codec block part
  node : (links : List LinkParts) (message : DataParts) → codec ≡ 0x70 → IsParsed block links message → IsFileOf links message part.head part.children part.size → IsPartIn codec block part

-- the number, if it is below 2^64
abbrev pub within : ℕ → Option ℕ
within n = if nat_lt n (2 ^ 64) then Some n else None

-- whether a node of this type is a file or a part of one
abbrev pub is_file_type : DataType → Bool
is_file_type Raw = true
is_file_type Directory = false
is_file_type File = true
is_file_type Metadata = false
is_file_type Symlink = false
is_file_type HamtShard = false

-- the bytes of the file in a node, and the number of bytes that it stands for
abbrev pub head_of : UnixFsParts → List ℕ
head_of u = unwrap_or u.message.content []

abbrev pub size_of : UnixFsParts → ℕ
size_of u = length (head_of u) + sum u.message.blocksizes

-- whether a size, if there is one, is this number
abbrev pub agrees : Option ℕ → ℕ → Bool
agrees None n = true
agrees (Some size) n = size == n

-- the part of a file that a node is, or the first reason why it is none
unfoldable pub part_in : UnixFsParts → Result Part PartError
part_in u =
    if is_file_type u.message.data_type then
    (if length u.links == length u.message.blocksizes then
    (if nat_lt (size_of u) (2 ^ 64) then
    (if agrees u.message.filesize (size_of u) then
    Ok (record { head = head_of u; children = children_of u.links u.message.blocksizes; size = size_of u })
    else Err FileSize)
    else Err TooLarge)
    else Err SizeCount)
    else Err (NotFile u.message.data_type)

-- the part of a file in a block of this codec, or the first reason why it is none
unfoldable pub read_part : (codec : ℕ) → List ℕ → Result Part PartError
read_part codec block =
    if codec == 0x55 then Ok (record { head = block; children = []; size = length block })
    else if codec == 0x70 then with_error kind_of_node (read_unixfs block) >>= part_in
    else Err (Codec codec)

-- True if the block of the CID is no part of a file for this reason. The block is verified first.
pub data PartFault (link : Link) (block : List ℕ) (error : PartError) : Type 0 where
  no_memory : error ≡ Memory → PartFault link block error
  unverified : (reason : VerifyError) → error ≡ Verify reason → IsVerifyError link block reason → PartFault link block error
  no_part : IsBlockOf digest_by link block → read_part link.codec block ≡ Err error → PartFault link block error
