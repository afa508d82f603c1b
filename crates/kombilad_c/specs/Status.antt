-- The status numbers that the exports return. The C header has their names.
use Rattle.std.specs.Prelude.{ℕ}
use Rattle.ipld_cid.specs.declared.error.CidError.{CidError}
use Rattle.ipld_cid.specs.declared.error.CidError.TheVariants as cid
use Rattle.ipld_cid_text.specs.declared.error.TextError.{TextError}
use Rattle.ipld_cid_text.specs.declared.error.TextError.TheVariants as text
use Rattle.dag_cbor_format.specs.declared.error.CborError.{CborError}
use Rattle.dag_cbor_format.specs.declared.error.CborError.TheVariants as block
use Rattle.ipld_block.specs.declared.block_cid.error.VerifyError.{VerifyError}
use Rattle.ipld_block.specs.declared.block_cid.error.VerifyError.TheVariants.{UnknownHash, WrongDigest}
use Rattle.dag_cbor_tape.specs.declared.error.EncodeErrorKind.{EncodeErrorKind}
use Rattle.dag_cbor_tape.specs.declared.error.EncodeErrorKind.TheVariants as tape
use Rattle.dag_cbor_blocks.specs.declared.block_error.BlockErrorKind.{BlockErrorKind}
use Rattle.dag_cbor_blocks.specs.declared.block_error.BlockErrorKind.TheVariants.{TooDeep, TooMany, Cbor}
use Rattle.dag_json.specs.declared.read_error.ReadErrorKind.{ReadErrorKind}
use Rattle.dag_json.specs.declared.read_error.ReadErrorKind.TheVariants as json
use Rattle.dag_pb.specs.declared.error.PbErrorKind.{PbErrorKind}
use Rattle.dag_pb.specs.declared.error.PbErrorKind.TheVariants as pb
use Rattle.ipld_car.specs.declared.error.CarErrorKind.{CarErrorKind}
use Rattle.ipld_car.specs.declared.error.CarErrorKind.TheVariants as car
use Rattle.unixfs.specs.declared.error.UnixFsErrorKind.{UnixFsErrorKind}
use Rattle.unixfs.specs.declared.error.UnixFsErrorKind.TheVariants as message
use Rattle.unixfs.specs.declared.node.NodeError.{NodeError}
use Rattle.unixfs.specs.declared.node.NodeError.TheVariants as node
use Rattle.unixfs_build.specs.declared.error.BuildError.{BuildError}
use Rattle.unixfs_build.specs.declared.error.BuildError.TheVariants as pack
use Rattle.unixfs_files.specs.declared.error.PartError.{PartError}
use Rattle.unixfs_files.specs.declared.error.PartError.TheVariants as file
use Rattle.unixfs_folders.specs.declared.error.FolderErrorKind.{FolderErrorKind}
use Rattle.unixfs_folders.specs.declared.error.FolderErrorKind.TheVariants as folder

-- The status of an error of bytes that are not a CID, named in `bindings/c/kombilad.h`. No export
-- returns 15.
abbrev pub cid_status : CidError → ℕ
cid_status cid.Memory = 1
cid_status cid.End = 16
cid_status cid.NotShortest = 17
cid_status cid.VarintTooLarge = 18
cid_status cid.ExplicitVersion0 = 19
cid_status (cid.UnknownVersion version) = 20
cid_status cid.DigestTooLong = 21
cid_status cid.TrailingBytes = 22
cid_status cid.InvalidV0Multihash = 15
cid_status cid.InvalidText = 15

-- The status of an error of a text that is not one of a CID, named in `bindings/c/kombilad.h`.
abbrev pub text_status : TextError → ℕ
text_status text.UnknownBase = 32
text_status text.InvalidLength = 33
text_status (text.InvalidLetter place) = 34
text_status text.UnusedBits = 35
text_status text.WrongVersion = 36
text_status (text.Cid error) = cid_status error

-- The status of an error of the bytes of a link that are not a CID, named in
-- `bindings/c/kombilad.h`. No export returns 15.
abbrev pub link_status : CidError → ℕ
link_status cid.Memory = 1
link_status cid.End = 80
link_status cid.NotShortest = 81
link_status cid.VarintTooLarge = 82
link_status cid.ExplicitVersion0 = 83
link_status (cid.UnknownVersion version) = 84
link_status cid.DigestTooLong = 85
link_status cid.TrailingBytes = 86
link_status cid.InvalidV0Multihash = 15
link_status cid.InvalidText = 15

-- The status of an error of bytes that are not a block, named in `bindings/c/kombilad.h`. No export
-- returns 15.
abbrev pub block_status : CborError → ℕ
block_status block.Memory = 1
block_status block.End = 48
block_status block.NotShortest = 49
block_status block.Float = 50
block_status block.Unsupported = 51
block_status block.Utf8 = 52
block_status block.KeyNotText = 53
block_status block.DuplicateKey = 54
block_status block.LinkBytes = 55
block_status block.TrailingBytes = 56
block_status (block.Cid error) = link_status error
block_status block.Read = 15
block_status block.Write = 15
block_status block.IntegerRange = 15

-- The status of an error of reading a block within limits, named in `bindings/c/kombilad.h`.
abbrev pub limit_status : BlockErrorKind → ℕ
limit_status TooDeep = 6
limit_status TooMany = 7
limit_status (Cbor error) = block_status error

-- The status of an error of reading a CAR, named in `bindings/c/kombilad.h`. Reading bytes in
-- memory does not fail.
abbrev pub car_status : CarErrorKind → ℕ
car_status car.Memory = 1
car_status (car.Read error) = 1
car_status car.UnexpectedEnd = 97
car_status car.LengthNotShortest = 98
car_status car.LengthTooLarge = 99
car_status car.Empty = 100
car_status (car.TooLong length) = 101
car_status car.NotAHeader = 102
car_status car.Payload = 103
car_status (car.ShortPayload expected found) = 104
car_status (car.Cid error) = cid_status error
car_status (car.HeaderBlock kind) = limit_status kind

-- The status of an error of verifying that a block is a CID's, named in `bindings/c/kombilad.h`.
abbrev pub verify_status : VerifyError → ℕ
verify_status (UnknownHash code) = 112
verify_status WrongDigest = 113

-- The status of an error of writing the block of a tape, named in `bindings/c/kombilad.h`.
abbrev pub encode_status : EncodeErrorKind → ℕ
encode_status tape.Memory = 1
encode_status tape.Missing = 128
encode_status tape.LeftOver = 129
encode_status tape.Kind = 130
encode_status tape.Span = 131
encode_status tape.Fields = 132
encode_status tape.Content = 133
encode_status tape.Utf8 = 134
encode_status tape.Float = 135
encode_status tape.DuplicateKey = 137
encode_status (tape.Cid error) = link_status error

-- The status of an error of bytes that are not a DAG-PB node, named in `bindings/c/kombilad.h`.
abbrev pub pb_status : PbErrorKind → ℕ
pb_status pb.Memory = 1
pb_status pb.End = 144
pb_status pb.VarintTooLarge = 145
pb_status (pb.UnknownField key) = 146
pb_status pb.FieldOrder = 147
pb_status pb.NoHash = 148
pb_status pb.Utf8 = 149
pb_status (pb.Cid error) = link_status error

-- The status of an error of a text that is not DAG-JSON, named in `bindings/c/kombilad.h`. No
-- export returns 15.
abbrev pub json_status : ReadErrorKind → ℕ
json_status json.Memory = 1
json_status json.TooDeep = 6
json_status json.TooMany = 7
json_status json.Utf8 = 160
json_status json.Syntax = 161
json_status json.End = 162
json_status json.Float = 163
json_status json.IntegerRange = 164
json_status json.DuplicateKey = 165
json_status json.Link = 166
json_status json.Bytes = 167
json_status json.Reserved = 168
json_status json.NotCanonical = 15

-- The status of an error of data that are not a message of UnixFS, named in `bindings/c/kombilad.h`.
abbrev pub message_status : UnixFsErrorKind → ℕ
message_status message.Memory = 1
message_status message.End = 208
message_status message.VarintTooLarge = 209
message_status (message.UnknownField key) = 210
message_status message.FieldOrder = 211
message_status message.NoType = 212
message_status (message.UnknownType code) = 213
message_status (message.ModeTooLarge mode) = 214
message_status message.NoSeconds = 215
message_status (message.Nanoseconds count) = 216

-- The status of an error of a block that is not a node of UnixFS, named in `bindings/c/kombilad.h`.
abbrev pub node_status : NodeError → ℕ
node_status (node.Block error) = pb_status error.kind
node_status node.NoData = 195
node_status (node.Message error) = message_status error.kind

-- The status of an error of a block that a walk does not take, named in `bindings/c/kombilad.h`.
abbrev pub file_status : PartError → ℕ
file_status file.Memory = 1
file_status (file.Verify error) = verify_status error
file_status (file.Codec code) = 194
file_status (file.Node error) = node_status error
file_status (file.NotFile data_type) = 196
file_status file.SizeCount = 197
file_status file.FileSize = 198
file_status file.PartSize = 199
file_status file.TooLarge = 200
file_status file.TooManyBlocks = 201
file_status file.TooDeep = 202
file_status file.TooManyParts = 203
file_status file.Finished = 192

-- The byte of an error of a block that is not a node of UnixFS: of the block, or of the node's data.
abbrev pub node_place : NodeError → ℕ
node_place (node.Block error) = error.offset
node_place node.NoData = 0
node_place (node.Message error) = error.offset

-- The byte of an error of a block that a walk does not take.
abbrev pub file_place : PartError → ℕ
file_place (file.Node error) = node_place error
file_place error = 0

-- The status of an error of a block that is not taken for a folder, named in
-- `bindings/c/kombilad.h`.
abbrev pub folder_status : FolderErrorKind → ℕ
folder_status folder.Memory = 1
folder_status (folder.Codec code) = 224
folder_status (folder.Verify error) = verify_status error
folder_status (folder.Node error) = node_status error
folder_status (folder.NotFolder data_type) = 225
folder_status folder.HashFunction = 226
folder_status folder.Fanout = 227
folder_status (folder.InvalidName index) = 228
folder_status (folder.NameOrder index) = 229
folder_status (folder.InvalidSlot index) = 230
folder_status (folder.SlotOrder index) = 231
folder_status folder.BitField = 232
folder_status folder.NotShard = 233
folder_status (folder.WrongSlot index) = 234
folder_status folder.TooDeep = 235
folder_status folder.Finished = 192

-- The place of an error of a block that is not taken for a folder: the byte at which it is not a
-- node, or the number of the link at fault, counted from 0. Other errors have the place 0.
abbrev pub folder_place : FolderErrorKind → ℕ
folder_place (folder.Node error) = node_place error
folder_place (folder.InvalidName index) = index
folder_place (folder.NameOrder index) = index
folder_place (folder.InvalidSlot index) = index
folder_place (folder.SlotOrder index) = index
folder_place (folder.WrongSlot index) = index
folder_place error = 0

-- The status of an error of a file, a folder or a symbolic link that is not packed, named in
-- `bindings/c/kombilad.h`.
abbrev pub pack_status : BuildError → ℕ
pack_status pack.Memory = 1
pack_status pack.Width = 240
pack_status pack.TooLarge = 241
pack_status (pack.Nanoseconds count) = 242
pack_status (pack.InvalidName index) = 243
pack_status (pack.NameOrder index) = 244
pack_status pack.SameHash = 245

-- The number of the entry at fault of a folder that is not packed, counted from 0. Other errors have
-- the place 0.
abbrev pub pack_place : BuildError → ℕ
pack_place (pack.InvalidName index) = index
pack_place (pack.NameOrder index) = index
pack_place error = 0
