-- The bytes that are written for a message. Each varint is the shortest.
use Rattle.std.specs.Prelude.{◌<◌, ◌^◌, ℕ, nat_lt, if◌then◌else◌, length, slice_index_or, IfSome, FitsSigned, List, [], ◌++◌, flat_map, Option, Some, None, Result, Ok, Err}
use Rattle.std.specs.Int.{w64, cast_unsigned}
use Rattle.pb_wire.specs.Writing.{number_bytes, content_bytes, fixed32_bytes}
use Rattle.dag_pb.specs.Writing.{content_of, number_of}
use Rattle.unixfs.specs.declared.encode_error.UnixFsEncodeError.{UnixFsEncodeError}
use Rattle.unixfs.specs.declared.encode_error.UnixFsEncodeError.TheVariants.{Nanoseconds}
use Rattle.unixfs.specs.Data.{TimeParts, DataParts, code_of, fraction_of}

-- the field of a number of four bytes with this key, or nothing without a number
abbrev pub fixed32_of : (key : ℕ) → Option ℕ → List ℕ
fixed32_of key None = []
fixed32_of key (Some n) = fixed32_bytes key n

-- the message `UnixTime` of a time
unfoldable pub time_bytes : TimeParts → List ℕ
time_bytes time = number_bytes 8 (cast_unsigned w64 time.seconds) ++ fixed32_of 21 (fraction_of time.nanoseconds)

-- the field mtime of a time, or nothing without a time
abbrev pub time_of : Option TimeParts → List ℕ
time_of None = []
time_of (Some time) = content_bytes 66 (time_bytes time)

-- the fields of numbers with this key, one after another
abbrev pub numbers_bytes : (key : ℕ) → List ℕ → List ℕ
numbers_bytes key ns = flat_map (number_bytes key) ns

-- the message `Data` of these parts
unfoldable pub data_bytes : DataParts → List ℕ
data_bytes d =
    number_bytes 8 (code_of d.data_type) ++ (content_of 18 d.content ++ (number_of 24 d.filesize ++ (numbers_bytes 32 d.blocksizes
    ++ (number_of 40 d.hash_type ++ (number_of 48 d.fanout ++ (number_of 56 d.mode ++ time_of d.mtime))))))

-- True if the numbers of the message fit their types.
pub record IsWritable (d : DataParts) : Type 0 where
  pub content : IfSome d.content (λ c. length c < 2 ^ 64)
  pub filesize : IfSome d.filesize (λ n. n < 2 ^ 64)
  pub blocksizes : (i : ℕ) → slice_index_or d.blocksizes i 0 < 2 ^ 64
  pub hash_type : IfSome d.hash_type (λ n. n < 2 ^ 64)
  pub fanout : IfSome d.fanout (λ n. n < 2 ^ 64)
  pub mode : IfSome d.mode (λ n. n < 2 ^ 32)
  pub seconds : IfSome d.mtime (λ t. FitsSigned w64 t.seconds)

-- the message, unless the time has too many nanoseconds
abbrev pub if_valid_time : Option TimeParts → List ℕ → Result (List ℕ) UnixFsEncodeError
if_valid_time None bytes = Ok bytes
if_valid_time (Some time) bytes = if nat_lt 999999999 time.nanoseconds then Err (Nanoseconds time.nanoseconds) else Ok bytes

-- The bytes that are written for a message, or the error of its time.
unfoldable pub written : DataParts → Result (List ℕ) UnixFsEncodeError
written d = if_valid_time d.mtime (data_bytes d)
