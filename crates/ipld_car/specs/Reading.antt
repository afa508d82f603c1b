-- The bytes that reading a section takes from a reader, and its results.
use Rattle.std.specs.Prelude.{◌≡◌, ◌+◌, ◌≤◌, ◌<◌, ◌⊎◌, ℕ, Bool, true, false, List, [], length, drop, Option, Result, Ok, Err}
use Rattle.ipld_cid.specs.Bytes.{read_cid}
use Rattle.ipld_cid.specs.Cid.{Link}
use Rattle.ipld_cid.specs.declared.error.CidError.{CidError}
use Rattle.ipld_cid.specs.Front.{BeginsWith}
use Rattle.ipld_car.specs.declared.error.CarError.{CarError}
use Rattle.ipld_car.specs.declared.error.CarErrorKind.{CarErrorKind}
use Rattle.ipld_car.specs.declared.error.CarErrorKind.TheVariants.{Cid, ShortPayload, UnexpectedEnd}
use Rattle.ipld_car.specs.declared.version.CarVersion.{CarVersion}
use Rattle.ipld_car.specs.declared.version.CarVersion.TheVariants.{V1, V2}
use Rattle.ipld_car.specs.Padding.{IsPadded}
use Rattle.ipld_car.specs.Taking.{Take, room_of, Ends, IsReaderError}
use Rattle.ipld_car.specs.Fails.{Fails}
use Rattle.ipld_car.specs.Framing.{IsFramed, IsCutShort, FramingFault, fault_place}
use Rattle.ipld_car.specs.Section.{Block, content_of, IsSection}

-- True if the bytes are a varint of `place` bytes and the content that it counts, and the content
-- does not begin with a CID. Reading a CID from the content returns `error`.
pub record HasNoCid (limit room : ℕ) (bytes : List ℕ) (error : CidError) (place : ℕ) : Type 0 where
  pub framed : IsFramed limit room bytes place
  pub error_is : read_cid 64 (drop place bytes) ≡ Err error
  pub none : (link : Link) (rest : List ℕ) → BeginsWith 64 (drop place bytes) link rest → ⊥

-- True if the bytes taken are not a section, for this reason and at this place. The reason is never
-- `ShortPayload`.
abbrev pub TakingFault : ℕ → ℕ → Option (List ℕ) → Option (List ℕ) → List ℕ → CarErrorKind → ℕ → Type 0
TakingFault limit room old new taken (Cid error) place = HasNoCid limit room taken error place
TakingFault limit room old new taken kind place = FramingFault limit room old new taken kind × (place ≡ fault_place kind (length taken))

-- True if the bytes taken are not a section, for this reason and at this place. The reason may be
-- `ShortPayload`, with any numbers.
abbrev pub SectionFault : ℕ → ℕ → Option (List ℕ) → Option (List ℕ) → List ℕ → CarErrorKind → ℕ → Type 0
SectionFault limit room old new taken (ShortPayload expected found) place = IsCutShort limit room old new taken × (place ≡ length taken)
SectionFault limit room old new taken kind place = TakingFault limit room old new taken kind place

-- True if an error of this kind is possible in a CAR of this version. Version 1 ends with the file,
-- so it has no `ShortPayload`. Version 2 has a payload of `size` bytes, and `found` of them were
-- read. A `ShortPayload` has both numbers, and `found` is less than `size`. At an `UnexpectedEnd`
-- they are equal.
abbrev pub EndOf : CarVersion → (size found : ℕ) → CarErrorKind → Type 0
EndOf V1 size found (ShortPayload expected came) = ⊥
EndOf V2 size found (ShortPayload expected came) = (found < size) × (expected ≡ size) × (came ≡ found)
EndOf V2 size found UnexpectedEnd = found ≡ size
EndOf version size found _ = Unit {0}

-- True if reading can have this result in a CAR of this version (CARv2, "Data payload"). In version
-- 2 the sections end only if all `size` bytes of the payload were read, so that `found` equals
-- `size`, or if zeros that are allowed follow. If the file ends before, the error has both numbers.
abbrev pub EndsOf : CarVersion → (size found : ℕ) → (is_padded : Type 0) → Result Bool CarError → Type 0
EndsOf V2 size found is_padded (Ok false) = (found ≡ size) ⊎ is_padded
EndsOf version size found is_padded (Ok has) = Unit {0}
EndsOf version size found is_padded (Err error) = EndOf version size found error.kind

-- the block that remains if no section was read: the CID of the last one, and no bytes
abbrev pub emptied : Block → Block
emptied block = record { cid = block.cid; bytes = [] }

-- True if a section was read, or if the block that remains has the old CID and no bytes.
abbrev pub Leaves : Block → Block → Result Bool CarError → Type 0
Leaves old new (Ok true) = Unit {0}
Leaves old new (Ok false) = new ≡ emptied old
Leaves old new (Err error) = new ≡ emptied old

-- True if the content does not begin with a CID, and `error` is the reason. Its section begins at
-- `begin`, and its place is `place` bytes later.
pub record NamesNone (content : List ℕ) (begin place : ℕ) (error : CarError) : Type 0 where
  pub reason : CidError
  pub kind : error.kind ≡ Cid reason
  pub section : error.section ≡ begin
  pub offset : error.offset ≡ begin + place
  pub error_is : read_cid 64 content ≡ Err reason
  pub none : (link : Link) (rest : List ℕ) → BeginsWith 64 content link rest → ⊥

-- True if the result of reading a section fits the bytes taken: the section of the block within the
-- limits, nothing at the end, or the error with its place. The error is never `ShortPayload`.
abbrev pub TakesSection : Take → Block → Result Bool CarError → Type 0
TakesSection take block (Ok true) =
    IsSection take.taken block × (length (content_of block) ≤ take.limit) × (length take.taken ≤ room_of take)
TakesSection take block (Ok false) = (take.taken ≡ []) × Ends (room_of take) take.before take.after []
TakesSection take block (Err error) =
    Fails take.begin (TakingFault take.limit (room_of take) take.before take.after take.taken) error

-- True if the result of reading a section fits the bytes taken: `IsSection` of the block within the
-- limits, nothing at the end or before zeros that are allowed, or the error with its place (CARv1,
-- "Data").
abbrev pub ReadsSection : (padding : Bool) → Take → Block → Result Bool CarError → Type 0
ReadsSection padding take block (Ok true) =
    IsSection take.taken block × (length (content_of block) ≤ take.limit) × (length take.taken ≤ room_of take)
ReadsSection padding take block (Ok false) =
    (take.taken ≡ []) × (Ends (room_of take) take.before take.after [] ⊎ IsPadded padding take.before take.after)
ReadsSection padding take block (Err error) =
    Fails take.begin (SectionFault take.limit (room_of take) take.before take.after take.taken) error

-- True if `P` is true of the returned value, or if an allocation or the reader failed.
abbrev pub UnlessReaderFails : {A : Type 0} → Result A CarError → (A → Type 0) → Type 0
UnlessReaderFails (Ok x) P = P x
UnlessReaderFails (Err error) P = IsReaderError error.kind
