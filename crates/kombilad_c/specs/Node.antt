-- What the block of a CID says of a file, a folder or a symbolic link.
use Rattle.std.specs.Prelude.{◌≡◌, ◌≢◌, ◌⊎◌, ◌+◌, ℕ, ℤ, pos, Bool, is_some, if◌then◌else◌, List, [], length, sum, unwrap_or, Option, Some, None, Err}
use Rattle.ipld_block.specs.Digest.{digest_by, IsVerifyError}
use Rattle.ipld_block.specs.declared.block_cid.error.VerifyError.{VerifyError}
use Rattle.ipld_cid.specs.Cid.{Link}
use Rattle.dag_pb.specs.Node.{LinkParts}
use Rattle.unixfs.specs.declared.data.DataType.{DataType}
use Rattle.unixfs.specs.declared.data.DataType.TheVariants.{Raw, Directory, File, Metadata, Symlink, HamtShard}
use Rattle.unixfs.specs.declared.node.NodeError.{NodeError}
use Rattle.unixfs.specs.Data.{DataParts, TimeParts, code_of}
use Rattle.unixfs.specs.Files.{IsBlockOf}
use Rattle.unixfs.specs.Nodes.{IsParsed, IsNodeMemory, read_unixfs}
use Rattle.unixfs_files.specs.Parts.{within}
use Rattle.kombilad_c.specs.declared.node.NodeRow.{NodeRow}
use Rattle.kombilad_c.specs.Fill.{Variable, Fills, IsUntouched}
use Rattle.kombilad_c.specs.Status.{verify_status, node_status, node_place}

-- the number if something is so, and otherwise 0
abbrev pub number_if : ℕ → Bool → ℕ
number_if n is = if is then n else 0

-- ---- rows

-- the row of a raw block with so many bytes
abbrev pub raw_row : ℕ → NodeRow
raw_row len = record { kind = 0; fields = 1; size = len; seconds = pos 0; nanoseconds = 0; mode = 0 }

-- how many bytes a file has by its node, if it doesn't state that: its own, and those below its links
abbrev pub counted : DataType → (content : List ℕ) → (blocksizes : List ℕ) → Option ℕ
counted Raw content blocksizes = within (length content + sum blocksizes)
counted Directory content blocksizes = None
counted File content blocksizes = within (length content + sum blocksizes)
counted Metadata content blocksizes = None
counted Symlink content blocksizes = None
counted HamtShard content blocksizes = None

-- the first of two numbers that is there
abbrev pub first_of : Option ℕ → Option ℕ → Option ℕ
first_of None other = other
first_of (Some n) other = Some n

-- how many bytes a file has, if it is less than 2^64
abbrev pub size_of : DataParts → Option ℕ
size_of message = first_of message.filesize (counted message.data_type (unwrap_or message.content []) message.blocksizes)

-- the seconds of a time, and its nanoseconds
abbrev pub seconds_of : Option TimeParts → ℤ
seconds_of None = pos 0
seconds_of (Some time) = time.seconds

abbrev pub nanoseconds_of : Option TimeParts → ℕ
nanoseconds_of None = 0
nanoseconds_of (Some time) = time.nanoseconds

-- the row of a message
abbrev pub row_of : DataParts → NodeRow
row_of message = record {
  kind = code_of message.data_type;
  fields = number_if 1 (is_some (size_of message)) + number_if 2 (is_some message.mode) + number_if 4 (is_some message.mtime);
  size = unwrap_or (size_of message) 0;
  seconds = seconds_of message.mtime;
  nanoseconds = nanoseconds_of message.mtime;
  mode = unwrap_or message.mode 0;
}

-- the target of a symbolic link, and of others nothing
abbrev pub target_in : DataType → Option (List ℕ) → List ℕ
target_in Raw content = []
target_in Directory content = []
target_in File content = []
target_in Metadata content = []
target_in Symlink content = unwrap_or content []
target_in HamtShard content = []

abbrev pub target_of : DataParts → List ℕ
target_of message = target_in message.data_type message.content

-- ---- results

-- True if the row and the target are those of a verified block of this codec: all its bytes are a
-- file (0x55, raw), or it is a node of UnixFS (0x70, dag-pb).
pub data IsNodeIn (codec : ℕ) (block : List ℕ) (row : NodeRow) (target : List ℕ) : Type 0 where
  is_raw : codec ≡ 0x55 → row ≡ raw_row (length block) → target ≡ [] → IsNodeIn codec block row target
  is_node : (links : List LinkParts) (message : DataParts) → codec ≡ 0x70 → IsParsed block links message → row ≡ row_of message → target ≡ target_of message
      → IsNodeIn codec block row target

-- True if nothing is written but the place.
abbrev pub AreKept : Variable NodeRow → Variable (List ℕ) → Variable ℕ → Type 0
AreKept node target needed = (node.after ≡ node.before) × IsUntouched target.before target.after needed.before needed.after

-- True if this is the result for a verified block. The row of its node is written, and the target of
-- a symbolic link goes to the buffer. Or the codec is another one, and the status is 194. Or the
-- block isn't a node, and the status and the place are those of the error.
pub data ReadsNode (codec : ℕ) (block : List ℕ) (status : ℕ) (node : Variable NodeRow) (target : Variable (List ℕ)) (needed place : Variable ℕ) : Type 0 where
  reads : (content : List ℕ) → IsNodeIn codec block node.after content → Fills content status target.before target.after needed.after → place.after ≡ place.before
      → ReadsNode codec block status node target needed place
  other_codec : codec ≢ 0x55 → codec ≢ 0x70 → status ≡ 194 → AreKept node target needed → place.after ≡ place.before
      → ReadsNode codec block status node target needed place
  no_node : (error : NodeError) → codec ≡ 0x70 → IsNodeMemory error ⊎ (read_unixfs block ≡ Err error) → status ≡ node_status error → place.after ≡ node_place error
      → AreKept node target needed → ReadsNode codec block status node target needed place

-- True if the block is that of the CID, and this is the result for it. Or it is not, the status says
-- why, and nothing is written.
abbrev pub ReadsBlock :
    Link → (block : List ℕ) → (status : ℕ) → Variable NodeRow → Variable (List ℕ) → (needed place : Variable ℕ) → Type 0
ReadsBlock link block status node target needed place =
    (IsBlockOf digest_by link block × ReadsNode link.codec block status node target needed place)
    ⊎ ((error : VerifyError) × IsVerifyError link block error × (status ≡ verify_status error) × AreKept node target needed × (place.after ≡ place.before))
