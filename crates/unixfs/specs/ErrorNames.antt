-- The names and the sentences of the errors.
use Rattle.std.specs.Prelude.{ℕ, List, ◌++◌, ◌/◌, ◌%◌, codes}
use Rattle.std.specs.Fmt.{decimal}
use Rattle.unixfs.specs.declared.encode_error.UnixFsEncodeError.{UnixFsEncodeError}
use Rattle.unixfs.specs.declared.encode_error.UnixFsEncodeError.TheVariants as encode
use Rattle.unixfs.specs.declared.error.UnixFsError.{UnixFsError}
use Rattle.unixfs.specs.declared.error.UnixFsErrorKind.{UnixFsErrorKind}
use Rattle.unixfs.specs.declared.error.UnixFsErrorKind.TheVariants.{Memory, End, VarintTooLarge, UnknownField, FieldOrder, NoType, UnknownType, ModeTooLarge, NoSeconds, Nanoseconds}

-- the name of a kind
abbrev pub name_of : UnixFsErrorKind → List ℕ
name_of Memory = codes "Memory"
name_of End = codes "End"
name_of VarintTooLarge = codes "VarintTooLarge"
name_of (UnknownField key) = codes "UnknownField"
name_of FieldOrder = codes "FieldOrder"
name_of NoType = codes "NoType"
name_of (UnknownType code) = codes "UnknownType"
name_of (ModeTooLarge mode) = codes "ModeTooLarge"
name_of NoSeconds = codes "NoSeconds"
name_of (Nanoseconds count) = codes "Nanoseconds"

-- the sentence of a kind
abbrev pub kind_sentence : UnixFsErrorKind → List ℕ
kind_sentence Memory = codes "out of memory"
kind_sentence End = codes "the bytes end within a field"
kind_sentence VarintTooLarge = codes "a varint has more than ten bytes, or encodes a number of 2^64 or more"
kind_sentence (UnknownField key) = (codes "unknown field " ++ decimal (key / 8)) ++ (codes " of wire type " ++ decimal (key % 8))
kind_sentence FieldOrder = codes "a field is repeated or out of order"
kind_sentence NoType = codes "the message does not begin with its type"
kind_sentence (UnknownType code) = codes "unknown type " ++ decimal code
kind_sentence (ModeTooLarge mode) = codes "the mode has more than 32 bits: " ++ decimal mode
kind_sentence NoSeconds = codes "a time does not begin with its seconds"
kind_sentence (Nanoseconds count) = codes "the nanoseconds of a time are not from 1 to 999999999: " ++ decimal count

-- the sentence of an error, with its offset
abbrev pub sentence_of : UnixFsError → List ℕ
sentence_of error = kind_sentence error.kind ++ (codes " at byte " ++ decimal error.offset)

-- the name of an error of writing
abbrev pub encode_name_of : UnixFsEncodeError → List ℕ
encode_name_of encode.Memory = codes "Memory"
encode_name_of (encode.Nanoseconds count) = codes "Nanoseconds"

-- the sentence of an error of writing
abbrev pub encode_sentence : UnixFsEncodeError → List ℕ
encode_sentence encode.Memory = codes "out of memory"
encode_sentence (encode.Nanoseconds count) = codes "the nanoseconds of a time are more than 999999999: " ++ decimal count
