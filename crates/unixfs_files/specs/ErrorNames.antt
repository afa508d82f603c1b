-- The sentences of the errors.
use Rattle.std.specs.Prelude.{ℕ, List, ◌++◌, codes}
use Rattle.std.specs.Fmt.{decimal}
use Rattle.dag_pb.specs.declared.error.PbError.{PbError}
use Rattle.dag_pb.specs.declared.error.PbErrorKind.{PbErrorKind}
use Rattle.dag_pb.specs.declared.error.PbErrorKind.TheVariants as pb
use Rattle.ipld_block.specs.VerifyError as verifying
use Rattle.unixfs.specs.declared.data.DataType.{DataType}
use Rattle.unixfs.specs.declared.data.DataType.TheVariants.{Raw, Directory, File, Metadata, Symlink, HamtShard}
use Rattle.unixfs.specs.declared.error.UnixFsErrorKind.{UnixFsErrorKind}
use Rattle.unixfs.specs.declared.error.UnixFsErrorKind.TheVariants as message
use Rattle.unixfs.specs.declared.node.NodeError.{NodeError}
use Rattle.unixfs.specs.declared.node.NodeError.TheVariants.{Block, NoData, Message}
use Rattle.unixfs.specs.Nodes.{node_sentence}
use Rattle.unixfs_files.specs.declared.error.PartError.{PartError}
use Rattle.unixfs_files.specs.declared.error.PartError.TheVariants.{Memory, Verify, Codec, Node, NotFile, SizeCount, FileSize, PartSize, TooLarge, TooManyBlocks, TooDeep, TooManyParts, Finished}

-- the error of a block whose node has an error of this kind
abbrev pub of_pb_kind : PbErrorKind → NodeError → PartError
of_pb_kind pb.Memory error = Memory
of_pb_kind pb.End error = Node error
of_pb_kind pb.VarintTooLarge error = Node error
of_pb_kind (pb.UnknownField key) error = Node error
of_pb_kind pb.FieldOrder error = Node error
of_pb_kind pb.NoHash error = Node error
of_pb_kind (pb.Cid reason) error = Node error
of_pb_kind pb.Utf8 error = Node error

-- the error of a block whose message has an error of this kind
abbrev pub of_message_kind : UnixFsErrorKind → NodeError → PartError
of_message_kind message.Memory error = Memory
of_message_kind message.End error = Node error
of_message_kind message.VarintTooLarge error = Node error
of_message_kind (message.UnknownField key) error = Node error
of_message_kind message.FieldOrder error = Node error
of_message_kind message.NoType error = Node error
of_message_kind (message.UnknownType code) error = Node error
of_message_kind (message.ModeTooLarge mode) error = Node error
of_message_kind message.NoSeconds error = Node error
of_message_kind (message.Nanoseconds count) error = Node error

-- the error of a block that isn't a node of UnixFS
abbrev pub kind_of_node : NodeError → PartError
kind_of_node (Block error) = of_pb_kind error.kind (Block error)
kind_of_node NoData = Node NoData
kind_of_node (Message error) = of_message_kind error.kind (Message error)

-- the sentence of a type that isn't a file
abbrev pub type_sentence : DataType → List ℕ
type_sentence Raw = codes "a file"
type_sentence Directory = codes "a folder, not a file"
type_sentence File = codes "a file"
type_sentence Metadata = codes "metadata, not a file"
type_sentence Symlink = codes "a symbolic link, not a file"
type_sentence HamtShard = codes "a folder, not a file"

-- the sentence of an error
abbrev pub sentence_of : PartError → List ℕ
sentence_of Memory = codes "out of memory"
sentence_of (Verify error) = verifying.sentence_of error
sentence_of (Codec code) = codes "neither raw nor dag-pb, but of the codec with the code " ++ decimal code
sentence_of (Node error) = node_sentence error
sentence_of (NotFile data_type) = type_sentence data_type
sentence_of SizeCount = codes "the number of sizes in the node is not that of its links"
sentence_of FileSize = codes "the size in the node is not that of its bytes and its links"
sentence_of PartSize = codes "the block has another size than the block above it states"
sentence_of TooLarge = codes "the file has more bytes than the limit"
sentence_of TooManyBlocks = codes "the file has more blocks than the limit"
sentence_of TooDeep = codes "the blocks of the file nest deeper than the limit"
sentence_of TooManyParts = codes "more blocks of the file wait to be read than the limit"
sentence_of Finished = codes "all blocks of the file have been read"
