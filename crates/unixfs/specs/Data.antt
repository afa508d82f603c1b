-- The messages of UnixFS (UnixFS specification; Protocol Buffers, "Encoding"). `Data` has Type = 1,
-- Data = 2, filesize = 3, blocksizes = 4, hashType = 5, fanout = 6, mode = 7 and mtime = 8.
-- `UnixTime` has Seconds = 1 and FractionalNanoseconds = 2. Here a message has its fields in the
-- order of their numbers, and each at most once, except blocksizes.
use Rattle.std.specs.Prelude.{◌≡◌, ◌<◌, ◌^◌, ◌==◌, ℕ, ℤ, if◌then◌else◌, List, [], ◌∷◌, ◌++◌, Option, Some, None, IfSome}
use Rattle.std.specs.Int.{w64, cast_signed}
use Rattle.pb_wire.specs.Wire.{IsNumber, IsContent, IsNumberOf, IsContentOf, IsFixed32Of}
use Rattle.unixfs.specs.declared.data.DataType.{DataType}
use Rattle.unixfs.specs.declared.data.DataType.TheVariants.{Raw, Directory, File, Metadata, Symlink, HamtShard}

-- the number of a type
abbrev pub code_of : DataType → ℕ
code_of Raw = 0
code_of Directory = 1
code_of File = 2
code_of Metadata = 3
code_of Symlink = 4
code_of HamtShard = 5

-- the type with this number, or nothing
abbrev pub type_of : ℕ → Option DataType
type_of n =
    if n == 0 then Some Raw
    else if n == 1 then Some Directory
    else if n == 2 then Some File
    else if n == 3 then Some Metadata
    else if n == 4 then Some Symlink
    else if n == 5 then Some HamtShard
    else None

-- a time: its seconds since the beginning of 1970, and the nanoseconds after them
pub record TimeParts : Type 0 where
  pub seconds : ℤ
  pub nanoseconds : ℕ

-- a message `Data`: its type, and its other fields if it has them
pub record DataParts : Type 0 where
  pub data_type : DataType
  pub content : Option (List ℕ)
  pub filesize : Option ℕ
  pub blocksizes : List ℕ
  pub hash_type : Option ℕ
  pub fanout : Option ℕ
  pub mode : Option ℕ
  pub mtime : Option TimeParts

-- the value of the field FractionalNanoseconds, which is left out if it is 0
abbrev pub fraction_of : ℕ → Option ℕ
fraction_of nanoseconds = if nanoseconds == 0 then None else Some nanoseconds

-- True if the bytes are the message `UnixTime` of this time. The varint of its seconds is their
-- two's complement in 64 bits.
pub record IsTime (time : TimeParts) (bytes : List ℕ) : Type 0 where
  pub number : ℕ
  pub seconds : List ℕ
  pub fraction : List ℕ
  pub seconds_are : time.seconds ≡ cast_signed w64 number
  pub seconds_encoded : IsNumber 1 number seconds
  pub below : time.nanoseconds < 1000000000
  pub fraction_encoded : IsFixed32Of 2 (fraction_of time.nanoseconds) fraction
  pub encoded : bytes ≡ seconds ++ fraction

-- True if the bytes are the field mtime of this time, or are empty without a time.
abbrev pub IsTimeOf : Option TimeParts → List ℕ → Type 0
IsTimeOf None bytes = bytes ≡ []
IsTimeOf (Some time) bytes = (message : List ℕ) × IsTime time message × IsContent 8 message bytes

-- True if the bytes are fields of these numbers, one after another (a repeated field that is not
-- packed).
abbrev pub IsNumbers : (field : ℕ) → List ℕ → List ℕ → Type 0
IsNumbers field [] bytes = bytes ≡ []
IsNumbers field (n ∷ ns) bytes = (first : List ℕ) × (rest : List ℕ) × IsNumber field n first × IsNumbers field ns rest × (bytes ≡ first ++ rest)

-- True if the bytes are the message `Data` of these parts.
pub record IsData (d : DataParts) (bytes : List ℕ) : Type 0 where
  pub data_type : List ℕ
  pub content : List ℕ
  pub filesize : List ℕ
  pub blocksizes : List ℕ
  pub hash_type : List ℕ
  pub fanout : List ℕ
  pub mode : List ℕ
  pub mtime : List ℕ
  pub data_type_encoded : IsNumber 1 (code_of d.data_type) data_type
  pub content_encoded : IsContentOf 2 d.content content
  pub filesize_encoded : IsNumberOf 3 d.filesize filesize
  pub blocksizes_encoded : IsNumbers 4 d.blocksizes blocksizes
  pub hash_type_encoded : IsNumberOf 5 d.hash_type hash_type
  pub fanout_encoded : IsNumberOf 6 d.fanout fanout
  pub mode_encoded : IsNumberOf 7 d.mode mode
  pub mode_fits : IfSome d.mode (λ m. m < 2 ^ 32)
  pub mtime_encoded : IsTimeOf d.mtime mtime
  pub encoded : bytes ≡ data_type ++ (content ++ (filesize ++ (blocksizes ++ (hash_type ++ (fanout ++ (mode ++ mtime))))))
