-- The frame of a header or a section: a varint, and the bytes that it counts.
use Rattle.std.specs.Prelude.{◌≡◌, ◌≢◌, ◌≤◌, ◌<◌, ◌⊎◌, ◌-◌, ℕ, List, [], ◌++◌, length, Option, Some, None, Result, Ok, Err}
use Rattle.ipld_cid.specs.declared.error.CidError.TheVariants.{NotShortest as VarintNotShortest, VarintTooLarge}
use Rattle.ipld_cid.specs.Varint.{IsVarint}
use Rattle.ipld_car.specs.declared.error.CarErrorKind.{CarErrorKind}
use Rattle.ipld_car.specs.declared.error.CarErrorKind.TheVariants.{Memory, Read, UnexpectedEnd, LengthNotShortest, LengthTooLarge, Empty, TooLong}
use Rattle.ipld_car.specs.Taking.{Ends, IsReadOut, IsReadError}
use Rattle.ipld_car.specs.Lengths.{BeginsVarint, IsNoVarint}

-- True if the bytes are a varint of `start` bytes and then the content that it counts. The content
-- has at least one byte and at most `limit`. Both together have at most `room` bytes.
pub record IsFramed (limit room : ℕ) (bytes : List ℕ) (start : ℕ) : Type 0 where
  pub size : List ℕ
  pub content : List ℕ
  pub size_encoded : IsVarint (length content) size
  pub some : 0 < length content
  pub within_limit : length content ≤ limit
  pub within_room : length bytes ≤ room
  pub starts : length size ≡ start
  pub encoded : bytes ≡ size ++ content

-- True if the bytes are a varint of at most `limit`, and then fewer bytes than it counts.
pub record IsCutContent (limit : ℕ) (bytes : List ℕ) : Type 0 where
  pub size : List ℕ
  pub content : List ℕ
  pub total : ℕ
  pub size_encoded : IsVarint total size
  pub within_limit : total ≤ limit
  pub short : length content < total
  pub encoded : bytes ≡ size ++ content

-- True if the bytes end within a varint, or are a varint of at most `limit` and then fewer bytes
-- than it counts. They may be empty.
abbrev pub IsCut : ℕ → List ℕ → Type 0
IsCut limit bytes = BeginsVarint bytes ⊎ IsCutContent limit bytes

-- True if the bytes are cut in this way because the reader is at its end, with fewer than `room`
-- bytes taken.
pub record IsCutShort (limit room : ℕ) (old new : Option (List ℕ)) (taken : List ℕ) : Type 0 where
  pub cut : IsCut limit taken
  pub short : length taken < room
  pub ends : IsReadOut old new

-- True if the bytes taken are not a varint and the content that it counts, for this reason. An
-- allocation or the reader fails only before `room` bytes were taken.
abbrev pub FramingFault : ℕ → ℕ → Option (List ℕ) → Option (List ℕ) → List ℕ → CarErrorKind → Type 0
FramingFault limit room old new taken Memory = IsCut limit taken × (length taken < room)
FramingFault limit room old new taken (Read error) = IsCut limit taken × IsReadError error × (length taken < room)
FramingFault limit room old new taken UnexpectedEnd = IsCut limit taken × (taken ≢ []) × Ends room old new taken
FramingFault limit room old new taken LengthNotShortest = IsNoVarint taken VarintNotShortest
FramingFault limit room old new taken LengthTooLarge = IsNoVarint taken VarintTooLarge
FramingFault limit room old new taken Empty = IsVarint 0 taken
FramingFault limit room old new taken (TooLong n) = IsVarint n taken × (limit < n)
FramingFault limit room old new taken _ = ⊥

-- True if the result of reading a frame fits the bytes taken: the offset of the content, nothing at
-- the end if the bytes are empty, or the reason why they are not a frame.
abbrev pub ReadsFramed : ℕ → ℕ → Option (List ℕ) → Option (List ℕ) → List ℕ → Result (Option ℕ) CarErrorKind → Type 0
ReadsFramed limit room old new taken (Ok None) = (taken ≡ []) × Ends room old new taken
ReadsFramed limit room old new taken (Ok (Some start)) = IsFramed limit room taken start
ReadsFramed limit room old new taken (Err kind) = FramingFault limit room old new taken kind

-- the place of an error in a frame, if `taken` bytes of it were taken
abbrev pub fault_place : CarErrorKind → ℕ → ℕ
fault_place LengthNotShortest taken = taken - 1
fault_place LengthTooLarge taken = taken - 1
fault_place Empty taken = 0
fault_place (TooLong n) taken = 0
fault_place _ taken = taken
