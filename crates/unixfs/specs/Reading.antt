-- The result of reading a message: its parts, or the first error from the left.
use Rattle.std.specs.Prelude.{ℕ, zero, suc, ◌==◌, ◌||◌, ◌^◌, ℤ, Bool, nat_lt, if◌then◌else◌, List, [], ◌∷◌, length, Option, Some, None, Result, Ok, Err}
use Rattle.std.specs.Int.{w64, cast_signed}
use Rattle.pb_wire.specs.Steps.{◌>>=◌}
use Rattle.pb_wire.specs.Reading.{read_varint, number_field, content_field, fixed32_field}
use Rattle.unixfs.specs.declared.data.DataType.{DataType}
use Rattle.unixfs.specs.declared.error.UnixFsErrorKind.{UnixFsErrorKind}
use Rattle.unixfs.specs.declared.error.UnixFsErrorKind.TheVariants.{UnknownField, FieldOrder, NoType, UnknownType, ModeTooLarge, NoSeconds, Nanoseconds}
use Rattle.unixfs.specs.declared.error.UnixFsError.{UnixFsError}
use Rattle.unixfs.specs.declared.error.Fault.{Fault}
use Rattle.unixfs.specs.Errors.{of_wire, at, before, error_in}
use Rattle.unixfs.specs.Data.{TimeParts, DataParts, type_of}

-- ---- single fields

-- a number that may be left out, and the bytes after it
unfoldable pub read_number : (key : ℕ) → List ℕ → Result (Option ℕ × List ℕ) Fault
read_number key bytes = at (length bytes) (of_wire (number_field key bytes))

-- a content that may be left out, and the bytes after it
unfoldable pub read_bytes : (key : ℕ) → List ℕ → Result (Option (List ℕ) × List ℕ) Fault
read_bytes key bytes = at (length bytes) (of_wire (content_field key bytes))

-- the type with this number, or an error
abbrev pub known_type : ℕ → Option DataType → Result DataType UnixFsErrorKind
known_type code None = Err (UnknownType code)
known_type code (Some t) = Ok t

-- the type of a field Type, or an error without the field
unfoldable pub type_in : Option ℕ → Result DataType UnixFsErrorKind
type_in None = Err NoType
type_in (Some code) = known_type code (type_of code)

-- the type with which a message begins, and the bytes after it
unfoldable pub read_type : List ℕ → Result (DataType × List ℕ) Fault
read_type bytes = read_number 8 bytes >>= λ found. at (length bytes) (type_in found.0) >>= λ t. Ok (t, found.1)

-- the mode of a field, if it has 32 bits
unfoldable pub mode_in : Option ℕ → Result (Option ℕ) UnixFsErrorKind
mode_in None = Ok None
mode_in (Some mode) = if nat_lt mode (2 ^ 32) then Ok (Some mode) else Err (ModeTooLarge mode)

-- the mode, if there is one, and the bytes after it
unfoldable pub read_mode : List ℕ → Result (Option ℕ × List ℕ) Fault
read_mode bytes = read_number 56 bytes >>= λ found. at (length bytes) (mode_in found.0) >>= λ mode. Ok (mode, found.1)

-- the error of a field after the last, if there is one. The fields of the message have the keys for
-- which `known` is true.
unfoldable pub read_end : (known : ℕ → Bool) → List ℕ → Result (Unit {0}) Fault
read_end known [] = Ok tt
read_end known (b ∷ bytes) = at (length (b ∷ bytes)) (of_wire (read_varint (b ∷ bytes)) >>= λ key. Err (if known key.0 then FieldOrder else UnknownField key.0))

-- ---- sizes

-- the first number, if there is one, before the others
abbrev pub and_others : Option ℕ → List ℕ → Result (List ℕ × List ℕ) Fault → Result (List ℕ × List ℕ) Fault
and_others None rest others = Ok ([], rest)
and_others (Some n) rest others = others >>= λ ns. Ok (n ∷ ns.0, ns.1)

-- the numbers of fields with this key, at most `more` of them, and the bytes after them
abbrev pub numbers_within : (more key : ℕ) → List ℕ → Result (List ℕ × List ℕ) Fault
numbers_within zero key bytes = Ok ([], bytes)
numbers_within (suc more) key bytes = read_number key bytes >>= λ found. and_others found.0 found.1 (numbers_within more key found.1)

-- the numbers of all fields with this key at the front, and the bytes after them; each has a byte
unfoldable pub read_numbers : (key : ℕ) → List ℕ → Result (List ℕ × List ℕ) Fault
read_numbers key bytes = numbers_within (suc (length bytes)) key bytes

-- ---- times

-- the seconds of a field, or an error without the field
unfoldable pub seconds_in : Option ℕ → Result ℤ UnixFsErrorKind
seconds_in None = Err NoSeconds
seconds_in (Some n) = Ok (cast_signed w64 n)

-- the seconds with which a time begins, and the bytes after them
unfoldable pub read_seconds : List ℕ → Result (ℤ × List ℕ) Fault
read_seconds bytes = read_number 8 bytes >>= λ found. at (length bytes) (seconds_in found.0) >>= λ s. Ok (s, found.1)

-- the nanoseconds of a field, which are 0 without it, or an error
unfoldable pub fraction_in : Option ℕ → Result ℕ UnixFsErrorKind
fraction_in None = Ok 0
fraction_in (Some n) = if n == 0 || nat_lt 999999999 n then Err (Nanoseconds n) else Ok n

-- the nanoseconds, and the bytes after them
unfoldable pub read_fraction : List ℕ → Result (ℕ × List ℕ) Fault
read_fraction bytes = at (length bytes) (of_wire (fixed32_field 21 bytes)) >>= λ found. at (length bytes) (fraction_in found.0) >>= λ n. Ok (n, found.1)

-- whether a time has a field with this key
abbrev pub is_time_key : ℕ → Bool
is_time_key key = key == 8 || key == 21

-- the time whose message the bytes are
unfoldable pub read_time : List ℕ → Result TimeParts Fault
read_time bytes =
    read_seconds bytes >>= λ seconds.
    read_fraction seconds.1 >>= λ fraction.
    read_end is_time_key fraction.1 >>= λ end.
    Ok (record { seconds = seconds.0; nanoseconds = fraction.0 })

-- the time of a field with `after` bytes after it, if there is one
unfoldable pub time_in : (after : ℕ) → Option (List ℕ) → Result (Option TimeParts) Fault
time_in after None = Ok None
time_in after (Some message) = before after (read_time message) >>= λ t. Ok (Some t)

-- the time, if there is one, and the bytes after it
unfoldable pub read_mtime : List ℕ → Result (Option TimeParts × List ℕ) Fault
read_mtime bytes = read_bytes 66 bytes >>= λ found. time_in (length found.1) found.0 >>= λ t. Ok (t, found.1)

-- ---- messages

-- whether a message has a field with this key
abbrev pub is_data_key : ℕ → Bool
is_data_key key = key == 8 || key == 18 || key == 24 || key == 32 || key == 40 || key == 48 || key == 56 || key == 66

-- the first four fields
pub record HeadParts : Type 0 where
  pub data_type : DataType
  pub content : Option (List ℕ)
  pub filesize : Option ℕ
  pub blocksizes : List ℕ

-- the last four fields
pub record DetailParts : Type 0 where
  pub hash_type : Option ℕ
  pub fanout : Option ℕ
  pub mode : Option ℕ
  pub mtime : Option TimeParts

-- the first four fields, and the bytes after them
unfoldable pub read_head : List ℕ → Result (HeadParts × List ℕ) Fault
read_head bytes =
    read_type bytes >>= λ t.
    read_bytes 18 t.1 >>= λ content.
    read_number 24 content.1 >>= λ filesize.
    read_numbers 32 filesize.1 >>= λ sizes.
    Ok (record { data_type = t.0; content = content.0; filesize = filesize.0; blocksizes = sizes.0 }, sizes.1)

-- the last four fields, which all of the bytes are
unfoldable pub read_details : List ℕ → Result DetailParts Fault
read_details bytes =
    read_number 40 bytes >>= λ hash_type.
    read_number 48 hash_type.1 >>= λ fanout.
    read_mode fanout.1 >>= λ mode.
    read_mtime mode.1 >>= λ mtime.
    read_end is_data_key mtime.1 >>= λ end.
    Ok (record { hash_type = hash_type.0; fanout = fanout.0; mode = mode.0; mtime = mtime.0 })

-- the message of its first fields and its last
abbrev pub data_parts : HeadParts → DetailParts → DataParts
data_parts head details = record {
  data_type = head.data_type;
  content = head.content;
  filesize = head.filesize;
  blocksizes = head.blocksizes;
  hash_type = details.hash_type;
  fanout = details.fanout;
  mode = details.mode;
  mtime = details.mtime;
}

-- the message whose bytes these are, or the fault of the first invalid field
unfoldable pub read_fields : List ℕ → Result DataParts Fault
read_fields bytes = read_head bytes >>= λ head. read_details head.1 >>= λ details. Ok (data_parts head.0 details)

-- the result, with the error of a message of `len` bytes
abbrev pub in_message : {A : Type 0} → ℕ → Result A Fault → Result A UnixFsError
in_message len (Ok x) = Ok x
in_message len (Err fault) = Err (error_in len fault)

-- The message that reading returns, or the first error from the left.
unfoldable pub read_data : List ℕ → Result DataParts UnixFsError
read_data bytes = in_message (length bytes) (read_fields bytes)
