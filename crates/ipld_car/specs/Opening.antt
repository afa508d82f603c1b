-- The part of a CAR before its sections, and the results of reading it.
use Rattle.std.specs.Prelude.{◌≡◌, ◌≢◌, ◌-◌, ◌+◌, ◌^◌, ◌⊎◌, ◌≤◌, ℕ, List, ◌++◌, length, drop, Option, Result, Ok, Err, Vec}
use Rattle.std.specs.Io.KnownBytes.{Consumes}
use Rattle.std.specs.declared.alloc.Global.{Global}
use Rattle.ipld_cid.specs.Cid.{Link}
use Rattle.ipld_cid.specs.declared.cid.CidGeneric.{CidGeneric}
use Rattle.ipld_car.specs.declared.error.CarError.{CarError}
use Rattle.ipld_car.specs.declared.error.CarErrorKind.{CarErrorKind}
use Rattle.ipld_car.specs.declared.error.CarErrorKind.TheVariants.{Memory, UnexpectedEnd, ShortPayload, HeaderBlock, NotAHeader}
use Rattle.ipld_car.specs.declared.version.CarVersion.{CarVersion}
use Rattle.ipld_car.specs.declared.version.CarVersion.TheVariants.{V1, V2}
use Rattle.ipld_car.specs.Fails.{Fails}
use Rattle.ipld_car.specs.Taking.{Take, room_of, Ends}
use Rattle.ipld_car.specs.Framing.{IsFramed, IsCut, IsCutShort, FramingFault, fault_place}
use Rattle.ipld_car.specs.Header.{IsHeader}
use Rattle.ipld_car.specs.HeaderReading.{ReadsRoots}
use Rattle.ipld_car.specs.Version2.{IsBeforePayload, Version2Fault, pragma, pragma_block}

-- True if the bytes are a header with these roots, and its block has at most `limit` bytes.
pub record IsHeaderWithin (limit : ℕ) (bytes : List ℕ) (roots : List Link) : Type 0 where
  pub header : IsHeader bytes roots
  pub within_limit : length header.block ≤ limit

-- True if the bytes are the part before the sections, in a CAR of this version with these roots.
-- The CAR of version 1 in it begins at `start` and ends at `end`. In version 1 it is the whole
-- file: `start` is 0, and `end` is 2^64 - 1. In version 2 it is the payload. The block of the
-- header has at most `limit` bytes, and so does that of the pragma.
abbrev pub IsFront : ℕ → CarVersion → List ℕ → List Link → (start end : ℕ) → Type 0
IsFront limit V1 bytes roots start end = IsHeaderWithin limit bytes roots × (start ≡ 0) × (end ≡ 2 ^ 64 - 1)
IsFront limit V2 bytes roots start end =
    (before header : List ℕ) × (size : ℕ) × (bytes ≡ before ++ header) × IsBeforePayload before size × IsHeaderWithin limit header roots
    × (length pragma_block ≤ limit) × (start ≡ length before) × (end ≡ length before + size)

-- True if the part before the sections was taken (CARv1, "Header"; CARv2), and `IsFront` is true of
-- it for this limit, version, roots, start and end. It ends at `offset`, which is from `start` to
-- `end`.
pub record Opens (limit : ℕ) (old new : Option (List ℕ)) (version : CarVersion) (roots : List Link) (start offset end : ℕ) : Type 0 where
  pub bytes : List ℕ
  pub consumed : Consumes old new bytes
  pub front : IsFront limit version bytes roots start end
  pub position : offset ≡ length bytes
  pub behind : start ≤ offset
  pub within : offset ≤ end

-- True if the bytes taken are not a varint and a block, for this reason and at this place. The
-- reason may be `UnexpectedEnd` even if the bytes are empty.
abbrev pub BlockFault : ℕ → ℕ → Option (List ℕ) → Option (List ℕ) → List ℕ → CarErrorKind → ℕ → Type 0
BlockFault limit room old new taken UnexpectedEnd place = IsCut limit taken × Ends room old new taken × (place ≡ length taken)
BlockFault limit room old new taken kind place = FramingFault limit room old new taken kind × (place ≡ fault_place kind (length taken))

-- True if the bytes taken are not a header, for this reason and at this place.
abbrev pub HeaderFault : ℕ → ℕ → Option (List ℕ) → Option (List ℕ) → List ℕ → CarErrorKind → ℕ → Type 0
HeaderFault limit room old new taken Memory place = BlockFault limit room old new taken Memory place ⊎ IsFramed limit room taken place
HeaderFault limit room old new taken (HeaderBlock kind) place = IsFramed limit room taken place × ReadsRoots (drop place taken) (Err (HeaderBlock kind))
HeaderFault limit room old new taken NotAHeader place = IsFramed limit room taken place × ReadsRoots (drop place taken) (Err NotAHeader)
HeaderFault limit room old new taken kind place = BlockFault limit room old new taken kind place

-- True if the kind is not `NotAHeader`, or the bytes taken are not the pragma, which begins a CAR
-- of version 2.
abbrev pub IsNoPragma : List ℕ → CarErrorKind → Type 0
IsNoPragma taken NotAHeader = taken ≢ pragma
IsNoPragma taken _ = Unit {0}

-- True if the bytes taken are not the header of a payload of `size` bytes, for this reason and at
-- this place. If the file ends before the payload does, the reason has `size` and the number of
-- bytes taken.
abbrev pub PayloadFault : ℕ → ℕ → Option (List ℕ) → Option (List ℕ) → List ℕ → CarErrorKind → ℕ → Type 0
PayloadFault limit size old new taken (ShortPayload expected found) place =
    IsCutShort limit size old new taken × (expected ≡ size) × (found ≡ length taken) × (place ≡ length taken)
PayloadFault limit size old new taken UnexpectedEnd place = IsCut limit taken × (length taken ≡ size) × (place ≡ length taken)
PayloadFault limit size old new taken kind place = HeaderFault limit size old new taken kind place

-- True if the part before the sections cannot be read because of this error. It is in the header of
-- version 1, in the header of version 2, or in the header of its payload. In version 2 the block of
-- the pragma is within the limit, and nothing after the payload is taken.
pub data OpenFault (limit : ℕ) (old new : Option (List ℕ)) (error : CarError) : Type 0 where
  in_header : (taken : List ℕ) → Consumes old new taken → Fails 0 (HeaderFault limit (2 ^ 64 - 1) old new taken) error → IsNoPragma taken error.kind
      → OpenFault limit old new error
  in_version2 : (got : List ℕ) → length pragma_block ≤ limit → Consumes old new (pragma ++ got) → Fails 11 (Version2Fault old new got) error → OpenFault limit old new error
  in_payload : (before taken : List ℕ) (size : ℕ) → length pragma_block ≤ limit → IsBeforePayload before size → length taken ≤ size → Consumes old new (before ++ taken)
      → Fails (length before) (PayloadFault limit size old new taken) error → OpenFault limit old new error

-- True if the block of a header was taken, which begins at `start`, or the error is why it was not.
abbrev pub ReadsHeaderBlock : Take → Result ℕ CarError → Type 0
ReadsHeaderBlock take (Ok start) = IsFramed take.limit (room_of take) take.taken start
ReadsHeaderBlock take (Err error) =
    Fails take.begin (BlockFault take.limit (room_of take) take.before take.after take.taken) error

-- True if the result is the roots in the block, or the reason why they cannot be read. The header
-- begins at the offset `begin`, and its block `place` bytes later.
abbrev pub ReadsRootsAt : (block : List ℕ) (begin place : ℕ) → Result (Vec (CidGeneric 64) Global) CarError → Type 0
ReadsRootsAt block begin place (Ok roots) = ReadsRoots block (Ok roots)
ReadsRootsAt block begin place (Err error) = (error.section ≡ begin) × (error.offset ≡ begin + place) × ReadsRoots block (Err error.kind)
