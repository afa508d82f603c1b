-- The part of a CAR of version 2 before its payload (CARv2, "Pragma" and "Header"). It begins with
-- eleven bytes, a varint and the block of `{"version": 2}`. Then it has 40 bytes: 16 of
-- characteristics, and three numbers of 64 bits in little-endian order. These are the offset of the
-- payload, its length, and the offset of the index. Then it has padding up to the payload, which is
-- a CAR of version 1.
use Rattle.std.specs.Prelude.{◌≡◌, ◌≤◌, ◌<◌, ◌+◌, ◌-◌, ◌^◌, ◌⊎◌, ℕ, List, [], ◌∷◌, ◌++◌, length, slice_range, Option, MatchResult, Result}
use Rattle.std.specs.Int.{w64, from_le_bytes}
use Rattle.std.specs.Io.KnownBytes.{Consumes}
use Rattle.ipld_car.specs.declared.error.CarError.{CarError}
use Rattle.ipld_car.specs.declared.error.CarErrorKind.{CarErrorKind}
use Rattle.ipld_car.specs.declared.error.CarErrorKind.TheVariants.{Memory, Read, UnexpectedEnd, Payload as NoPayload}
use Rattle.ipld_car.specs.Taking.{IsReadOut, IsReadError, IsReaderError}
use Rattle.ipld_car.specs.Fails.{Fails}

-- the block `{"version": 2}`
abbrev pub pragma_block : List ℕ
pragma_block = 0xa1 ∷ 0x67 ∷ 0x76 ∷ 0x65 ∷ 0x72 ∷ 0x73 ∷ 0x69 ∷ 0x6f ∷ 0x6e ∷ 0x02 ∷ []

abbrev pub pragma : List ℕ
pragma = 0x0a ∷ pragma_block

-- the offset of the payload, by the 40 bytes of the header
abbrev pub start_in : List ℕ → ℕ
start_in header = from_le_bytes w64 (slice_range header 16 24)

-- the length of the payload, by the 40 bytes of the header
abbrev pub size_in : List ℕ → ℕ
size_in header = from_le_bytes w64 (slice_range header 24 32)

-- True if the bytes are the part before a payload of `size` bytes, which ends below 2^64.
pub record IsBeforePayload (bytes : List ℕ) (size : ℕ) : Type 0 where
  pub header : List ℕ
  pub padding : List ℕ
  pub sized : length header ≡ 40
  pub encoded : bytes ≡ pragma ++ header ++ padding
  pub begins : start_in header ≡ length bytes
  pub spans : size_in header ≡ size
  pub fits : length bytes + size < 2 ^ 64

-- True if the header places the payload before byte 51, or its end at 2^64 or more.
abbrev pub HasNoPayload : List ℕ → Type 0
HasNoPayload header = (start_in header < 51) ⊎ (2 ^ 64 ≤ start_in header + size_in header)

-- True if the header places the payload from `start` to `end`, after the header and below 2^64.
pub record PlacesPayload (header : List ℕ) (start end : ℕ) : Type 0 where
  pub begins : start_in header ≡ start
  pub behind : 51 ≤ start
  pub ends : start + size_in header ≡ end
  pub fits : end < 2 ^ 64

-- True if `count` bytes of padding were skipped, or the error is why they were not.
pub record SkipsPadding (old new : Option (List ℕ)) (count : ℕ) (result : Result (Unit {0}) CarError) : Type 0 where
  pub got : List ℕ
  pub consumed : Consumes old new got
  pub outcome : MatchResult result (λ _. length got ≡ count)
      (λ error. (length got < count) × (error.section ≡ 11) × (error.offset ≡ 51 + length got) × (((error.kind ≡ UnexpectedEnd) × IsReadOut old new) ⊎ IsReaderError error.kind))

-- True if the bytes after the pragma end within the header, or within the padding after a header
-- that places the payload.
abbrev pub EndsBeforePayload : List ℕ → Type 0
EndsBeforePayload got = (length got < 40) ⊎ ((HasNoPayload got → ⊥) × (length got < start_in got - 11))

-- True if the bytes after the pragma are not the rest of the part before a payload, for this reason
-- and at this place.
abbrev pub Version2Fault : Option (List ℕ) → Option (List ℕ) → List ℕ → CarErrorKind → ℕ → Type 0
Version2Fault old new got Memory place = (place ≡ length got) × EndsBeforePayload got
Version2Fault old new got (Read error) place = (place ≡ length got) × IsReadError error × EndsBeforePayload got
Version2Fault old new got UnexpectedEnd place = (place ≡ length got) × IsReadOut old new × EndsBeforePayload got
Version2Fault old new got NoPayload place = (place ≡ 16) × (length got ≡ 40) × HasNoPayload got
Version2Fault old new got _ place = ⊥

-- True if the header and the padding after the pragma were taken, up to a payload from `start` to
-- `end`.
pub record TakesToPayload (old new : Option (List ℕ)) (start end : ℕ) : Type 0 where
  pub header : List ℕ
  pub padding : List ℕ
  pub consumed : Consumes old new (header ++ padding)
  pub sized : length header ≡ 40
  pub places : PlacesPayload header start end
  pub padded : 51 + length padding ≡ start

-- True if the error is why they were not taken.
pub record FailsBeforePayload (old new : Option (List ℕ)) (error : CarError) : Type 0 where
  pub got : List ℕ
  pub consumed : Consumes old new got
  pub fails : Fails 11 (Version2Fault old new got) error
