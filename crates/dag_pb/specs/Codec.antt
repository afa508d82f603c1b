-- DAG-PB as a codec (multicodec "dag-pb", 0x70).
use Rattle.std.specs.Prelude.{◌≡◌, ℕ, if◌then◌else◌, List, Option, Some, None, Err, option_and_then}
use Rattle.std.specs.Option.{option_eq}
use Rattle.std.specs.Result.{result_ok}
use Rattle.std.specs.Simd.Lanes.{all_below}
use Rattle.ipld_cid.specs.Cid.{Link}
use Rattle.ipld_cid.specs.Multihash.{IsBytes}
use Rattle.ipld_codec.specs.Codec.{Failure, memory, reading, writing}
use Rattle.dag_pb.specs.Equal.{node_eq}
use Rattle.dag_pb.specs.Node.{NodeParts, IsNode}
use Rattle.dag_pb.specs.NodeReading.{read_node, links_found}
use Rattle.dag_pb.specs.Writing.{misplaced_link, written}
use Rattle.dag_pb.specs.declared.codec_error.PbCodecError.{PbCodecError}
use Rattle.dag_pb.specs.declared.codec_error.PbCodecError.TheVariants as codec
use Rattle.dag_pb.specs.declared.encode_error.PbEncodeError.{PbEncodeError}
use Rattle.dag_pb.specs.declared.encode_error.PbEncodeError.TheVariants as encode
use Rattle.dag_pb.specs.declared.error.PbError.{PbError}
use Rattle.dag_pb.specs.declared.error.PbErrorKind.{PbErrorKind}
use Rattle.dag_pb.specs.declared.error.PbErrorKind.TheVariants.{Memory, End, VarintTooLarge, UnknownField, FieldOrder, NoHash, Cid, Utf8}

-- The links of the node that a block encodes, or nothing if the bytes are not a node (DAG-PB
-- specification; multicodec table, 0x70).
abbrev pub pb_found : List ℕ → Option (List Link)
pb_found bytes = result_ok (links_found bytes)

-- True if the block is the message `PBNode` of this node (DAG-PB specification).
abbrev pub EncodesNode : NodeParts → List ℕ → Type 0
EncodesNode node block = IsBytes block × IsNode node block

-- The node that a block encodes, or nothing if the bytes are not a node.
unfoldable pub pb_decoded : List ℕ → Option NodeParts
pb_decoded block = if all_below 256 block then result_ok (read_node block) else None

abbrev pub if_decoded : NodeParts → List ℕ → Option (List ℕ)
if_decoded node block = if option_eq node_eq (pb_decoded block) (Some node) then Some block else None

-- The block that is written for a node, if it decodes to the node, and otherwise nothing. The block
-- of a `PbNodeBuf` does, if it has one: its hashes are CIDs, its names UTF-8, and its sizes below
-- 2^64.
unfoldable pub pb_written : NodeParts → Option (List ℕ)
pb_written node = option_and_then (if_decoded node) (result_ok (written node))

-- the failure that a kind of error reports, or nothing if it is an error in the block
abbrev pub kind_failure : PbErrorKind → Option Failure
kind_failure Memory = Some memory
kind_failure End = None
kind_failure VarintTooLarge = None
kind_failure (UnknownField key) = None
kind_failure FieldOrder = None
kind_failure NoHash = None
kind_failure (Cid error) = None
kind_failure Utf8 = None

-- The failure that an error reports, which is that of an allocation, or nothing if the error is in
-- the block.
abbrev pub pb_failure : PbError → Option Failure
pb_failure error = kind_failure error.kind

-- The failure that an error of the codec reports, of an allocation, a reader or a writer. It is
-- nothing if the error is in the node or in the block.
abbrev pub codec_failure : PbCodecError → Option Failure
codec_failure codec.Memory = Some memory
codec_failure codec.Read = Some reading
codec_failure codec.Write = Some writing
codec_failure (codec.Block error) = None
codec_failure (codec.LinkOrder index) = None

-- the error of the codec for an error of reading, which has this kind
abbrev pub reading_error : PbErrorKind → PbError → PbCodecError
reading_error Memory error = codec.Memory
reading_error _ error = codec.Block error

-- the error of the codec for an error of writing
abbrev pub writing_error : PbEncodeError → PbCodecError
writing_error encode.Memory = codec.Memory
writing_error (encode.LinkOrder index) = codec.LinkOrder index

-- True if the error is the first of the block, and not a failed allocation.
abbrev pub IsBlockError : List ℕ → PbCodecError → Type 0
IsBlockError block (codec.Block error) = (error.kind ≡ Memory → ⊥) × (read_node block ≡ Err error)
IsBlockError block _ = ⊥

-- True if the error is the first of the block, if the bytes of the reader are known. Otherwise it
-- is the first error of some block.
abbrev pub IsBlockErrorOf : Option (List ℕ) → PbCodecError → Type 0
IsBlockErrorOf None error = (block : List ℕ) × IsBlockError block error
IsBlockErrorOf (Some block) error = IsBlockError block error

-- True if the error is that of the first link that is out of order.
abbrev pub IsOrderError : NodeParts → PbCodecError → Type 0
IsOrderError node (codec.LinkOrder index) = misplaced_link node.links ≡ Some index
IsOrderError node _ = ⊥
