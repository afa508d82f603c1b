-- The names and the sentences of the errors.
use Rattle.std.specs.Prelude.{ℕ, List, ◌++◌, ◌/◌, ◌%◌, codes}
use Rattle.std.specs.Fmt.{decimal}
use Rattle.ipld_cid.specs.Error as cid
use Rattle.dag_pb.specs.declared.codec_error.PbCodecError.{PbCodecError}
use Rattle.dag_pb.specs.declared.codec_error.PbCodecError.TheVariants as codec
use Rattle.dag_pb.specs.declared.encode_error.PbEncodeError.{PbEncodeError}
use Rattle.dag_pb.specs.declared.encode_error.PbEncodeError.TheVariants as encode
use Rattle.dag_pb.specs.declared.error.PbError.{PbError}
use Rattle.dag_pb.specs.declared.error.PbErrorKind.{PbErrorKind}
use Rattle.dag_pb.specs.declared.error.PbErrorKind.TheVariants.{Memory, End, VarintTooLarge, UnknownField, FieldOrder, NoHash, Cid, Utf8}

-- the name of a kind
abbrev pub name_of : PbErrorKind → List ℕ
name_of Memory = codes "Memory"
name_of End = codes "End"
name_of VarintTooLarge = codes "VarintTooLarge"
name_of (UnknownField key) = codes "UnknownField"
name_of FieldOrder = codes "FieldOrder"
name_of NoHash = codes "NoHash"
name_of (Cid error) = codes "Cid"
name_of Utf8 = codes "Utf8"

-- the sentence of a kind
abbrev pub kind_sentence : PbErrorKind → List ℕ
kind_sentence Memory = codes "out of memory"
kind_sentence End = codes "the bytes end within a field"
kind_sentence VarintTooLarge = codes "a varint has more than ten bytes, or encodes a number of 2^64 or more"
kind_sentence (UnknownField key) = (codes "unknown field " ++ decimal (key / 8)) ++ (codes " of wire type " ++ decimal (key % 8))
kind_sentence FieldOrder = codes "a field is repeated or out of order"
kind_sentence NoHash = codes "a link does not begin with its hash"
kind_sentence (Cid error) = codes "the hash of a link is not a CID: " ++ cid.sentence_of error
kind_sentence Utf8 = codes "the name of a link is not UTF-8"

-- the sentence of an error, with its offset
abbrev pub sentence_of : PbError → List ℕ
sentence_of error = kind_sentence error.kind ++ (codes " at byte " ++ decimal error.offset)

-- the name of an error of writing
abbrev pub encode_name_of : PbEncodeError → List ℕ
encode_name_of encode.Memory = codes "Memory"
encode_name_of (encode.LinkOrder index) = codes "LinkOrder"

-- the sentence of an error of writing
abbrev pub encode_sentence : PbEncodeError → List ℕ
encode_sentence encode.Memory = codes "out of memory"
encode_sentence (encode.LinkOrder index) = codes "the links are not sorted by name: the first out of order has the index " ++ decimal index

-- the name of an error of the codec
abbrev pub codec_name_of : PbCodecError → List ℕ
codec_name_of codec.Memory = codes "Memory"
codec_name_of codec.Read = codes "Read"
codec_name_of codec.Write = codes "Write"
codec_name_of (codec.Block error) = name_of error.kind
codec_name_of (codec.LinkOrder index) = codes "LinkOrder"

-- the sentence of an error of the codec
abbrev pub codec_sentence : PbCodecError → List ℕ
codec_sentence codec.Memory = codes "out of memory"
codec_sentence codec.Read = codes "the reader failed"
codec_sentence codec.Write = codes "the writer failed"
codec_sentence (codec.Block error) = sentence_of error
codec_sentence (codec.LinkOrder index) = encode_sentence (encode.LinkOrder index)
