-- The errors of a value's block for the errors of its parts, their names and their sentences.
use Rattle.std.specs.Prelude.{ℕ, List, codes, Some}
use Rattle.std.specs.declared.option.Option.{Option}
use Rattle.dag_cbor_format.specs.declared.error.CborError.{CborError}
use Rattle.dag_cbor_format.specs.declared.error.CborError.TheVariants as cbor
use Rattle.dag_cbor_blocks.specs.declared.block_error.BlockError.{BlockError}
use Rattle.dag_cbor_blocks.specs.declared.block_error.BlockErrorKind.{BlockErrorKind}
use Rattle.dag_cbor_blocks.specs.declared.block_error.BlockErrorKind.TheVariants.{Cbor}
use Rattle.dag_cbor_blocks.specs.BlockErrors.{kind_name, sentence_of}
use Rattle.ipld_ser.specs.Error as serde_text
use Rattle.ipld_ser.specs.declared.error.SerdeError.{SerdeError}
use Rattle.ipld_ser.specs.declared.error.SerdeError.TheVariants as serde
use Rattle.ipld_ser.specs.declared.image_writer.Unwritten.{Unwritten}
use Rattle.ipld_ser.specs.declared.image_writer.Unwritten.TheVariants as unwritten
use Rattle.dag_cbor_serde.specs.declared.error.EncodeError.{EncodeError}
use Rattle.dag_cbor_serde.specs.declared.error.EncodeError.TheVariants as encode
use Rattle.dag_cbor_serde.specs.declared.error.DecodeError.{DecodeError}
use Rattle.dag_cbor_serde.specs.declared.error.DecodeError.TheVariants as decode

-- the error for an error of writing a value as its image
abbrev pub error_of_image : SerdeError → EncodeError
error_of_image serde.Memory = encode.Memory
error_of_image error = encode.Value error

-- the error for an error of writing an image as a block: `Memory`, `Write`, or otherwise
-- `IntegerRange`
abbrev pub error_of_write : CborError → EncodeError
error_of_write cbor.Memory = encode.Memory
error_of_write cbor.Write = encode.Write
error_of_write error = encode.IntegerRange

-- the error for an error of writing a part by itself: `Memory`, or otherwise `Rejected`
abbrev pub unwritten_of : CborError → Unwritten
unwritten_of cbor.Memory = unwritten.Memory
unwritten_of error = unwritten.Rejected

-- the error for an error of reading a value from a block's tree
abbrev pub error_of_read : SerdeError → DecodeError
error_of_read serde.Memory = decode.Memory
error_of_read error = decode.Value error

-- the error for an error of reading a block, by its kind: `Memory`, `Read`, or otherwise `Block`
abbrev pub error_of_kind : BlockError → BlockErrorKind → DecodeError
error_of_kind error (Cbor cbor.Memory) = decode.Memory
error_of_kind error (Cbor cbor.Read) = decode.Read
error_of_kind error kind = decode.Block error

-- the error for an error of reading a block
abbrev pub error_of_block : BlockError → DecodeError
error_of_block error = error_of_kind error error.kind

-- the error of a block whose tree is followed by other bytes, from this byte on
abbrev pub trailing_at : ℕ → DecodeError
trailing_at offset = decode.Block (record { kind = Cbor cbor.TrailingBytes; offset = offset })

-- the name of an error of writing
abbrev pub encode_name : EncodeError → List ℕ
encode_name encode.Memory = codes "Memory"
encode_name (encode.Value error) = serde_text.name_of error
encode_name encode.IntegerRange = codes "IntegerRange"
encode_name encode.Write = codes "Write"

-- the name of an error of reading
abbrev pub decode_name : DecodeError → List ℕ
decode_name decode.Memory = codes "Memory"
decode_name decode.Read = codes "Read"
decode_name (decode.Block error) = kind_name error.kind
decode_name (decode.Value error) = serde_text.name_of error

-- the sentence that an error of writing prints, which is not specified for a wrong kind
abbrev pub encode_sentence : EncodeError → Option (List ℕ)
encode_sentence encode.Memory = Some (codes "out of memory")
encode_sentence (encode.Value error) = serde_text.sentence_of error
encode_sentence encode.IntegerRange = Some (codes "an integer is below -2^64 or above 2^64 - 1")
encode_sentence encode.Write = Some (codes "the writer failed")

-- the sentence that an error of reading prints, with the same exception
abbrev pub decode_sentence : DecodeError → Option (List ℕ)
decode_sentence decode.Memory = Some (codes "out of memory")
decode_sentence decode.Read = Some (codes "the reader failed")
decode_sentence (decode.Block error) = Some (sentence_of error)
decode_sentence (decode.Value error) = serde_text.sentence_of error
