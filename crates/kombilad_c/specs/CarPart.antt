-- The results of the exports about a part of a CAR: the bytes at hand, which others may follow.
use Rattle.std.specs.Prelude.{◌≡◌, ◌⊎◌, ◌==◌, ◌+◌, ◌-◌, ◌<◌, ◌≤◌, ◌^◌, if◌then◌else◌, min, ℕ, List, [], ◌++◌, length, map, Option, Some}
use Rattle.ipld_cid.specs.Cid.{Link}
use Rattle.ipld_cid.specs.Varint.{IsVarint}
use Rattle.ipld_cid.specs.declared.error.CidError.TheVariants.{NotShortest as VarintNotShortest, VarintTooLarge}
use Rattle.ipld_car.specs.declared.error.CarError.{CarError}
use Rattle.ipld_car.specs.declared.error.CarErrorKind.{CarErrorKind}
use Rattle.ipld_car.specs.declared.error.CarErrorKind.TheVariants.{UnexpectedEnd, ShortPayload, LengthNotShortest, LengthTooLarge, Empty, TooLong, Cid}
use Rattle.ipld_car.specs.declared.version.CarVersion.{CarVersion}
use Rattle.ipld_car.specs.Fails.{Fails}
use Rattle.ipld_car.specs.Framing.{IsCut}
use Rattle.ipld_car.specs.InMemory.{between, Begins}
use Rattle.ipld_car.specs.Lengths.{BeginsVarint, IsNoVarint}
use Rattle.ipld_car.specs.Opening.{Opens}
use Rattle.ipld_car.specs.Position.{FaultOf}
use Rattle.ipld_car.specs.Reading.{HasNoCid}
use Rattle.ipld_car.specs.Section.{Block, content_of}
use Rattle.ipld_car.specs.Version2.{pragma, start_in, IsBeforePayload, HasNoPayload}
use Rattle.kombilad_c.specs.declared.car_place.CarPlace.{CarPlace}
use Rattle.kombilad_c.specs.declared.cid_record.CidBytes.{CidBytes}
use Rattle.kombilad_c.specs.declared.positions.Span.{Span}
use Rattle.kombilad_c.specs.Car.{Sections, SectionSpans, StandsAt, version_number}
use Rattle.kombilad_c.specs.CidRecord.{record_of}
use Rattle.kombilad_c.specs.Fill.{Variable, Fills, IsUntouched}
use Rattle.kombilad_c.specs.Status.{car_status}

-- ---- The whole CAR

-- True if `car` has fewer than 2^64 bytes, and these bytes from the byte `at` on. They are all that
-- it has from there on, unless `is_all` is 0.
pub record Continues (at : ℕ) (bytes : List ℕ) (is_all : ℕ) (car : List ℕ) : Type 0 where
  pub gone : List ℕ
  pub more : List ℕ
  pub parts : car ≡ gone ++ (bytes ++ more)
  pub before : length gone ≡ at
  pub all : (is_all ≡ 0 → ⊥) → more ≡ []
  pub fits : length car < 2 ^ 64

-- True if the bytes do not begin with a section of at most `limit` bytes, for this reason and at
-- this place. There should be `room` bytes.
abbrev pub LimitFault : (limit : ℕ) (bytes : List ℕ) (room : ℕ) → CarErrorKind → ℕ → Type 0
LimitFault limit bytes room UnexpectedEnd place = IsCut limit bytes × (place ≡ length bytes) × (length bytes ≡ room)
LimitFault limit bytes room (ShortPayload size found) place = IsCut limit bytes × (place ≡ length bytes) × (length bytes < room)
LimitFault limit bytes room LengthNotShortest place = Begins bytes (λ front. IsNoVarint front VarintNotShortest × (place ≡ length front - 1))
LimitFault limit bytes room LengthTooLarge place = Begins bytes (λ front. IsNoVarint front VarintTooLarge × (place ≡ length front - 1))
LimitFault limit bytes room Empty place = Begins bytes (λ front. IsVarint 0 front × (place ≡ 0))
LimitFault limit bytes room (TooLong n) place = Begins bytes (λ front. IsVarint n front × (limit < n) × (place ≡ 0))
LimitFault limit bytes room (Cid error) place = Begins bytes (λ front. HasNoCid limit (length bytes) front error place)
LimitFault limit bytes room _ place = ⊥

-- True if a section of at most `limit` bytes begins at the byte, its spans are written, and the
-- status is 0. Or the sections end there or before, and the status is 96. Or the status and the
-- offset are those of the error. Nothing else is written.
abbrev pub FindsWithin :
    (limit : ℕ) → Sections → (status : ℕ) → Variable SectionSpans → (offset : Variable ℕ) → Type 0
FindsWithin limit s status spans offset =
    ((status ≡ 0) × (s.at < s.end)
    × ((block : Block) × StandsAt s block spans.after × (length (content_of block) ≤ limit))
    × (offset.after ≡ offset.before))
    ⊎ ((status ≡ 96) × (s.end ≤ s.at) × (spans.after ≡ spans.before)
    × (offset.after ≡ offset.before))
    ⊎ ((error : CarError) × (s.at < s.end)
    × Fails s.at (LimitFault limit (between s.at s.end s.car) (s.end - s.at)) error
    × (status ≡ car_status error.kind) × (offset.after ≡ error.offset)
    × (spans.after ≡ spans.before))

-- True if the part before the sections of `car` was read with these roots, and `place` has its
-- version, the byte of the first section, and the byte at which the sections end by the header of
-- version 2. For version 1 that is 2^64 - 1 (CARv1, CARv2).
pub record IsOpenedAt (limit : ℕ) (car : List ℕ) (roots : List Link) (place : CarPlace) : Type 0 where
  pub version : CarVersion
  pub left : Option (List ℕ)
  pub start : ℕ
  pub opens : Opens limit (Some car) left version roots start place.at place.end
  pub numbered : place.version ≡ version_number version

-- True if the part before the sections of `car` was read, the place of the sections is written, and
-- the roots go to the buffer. The place is also written if the buffer is too short. Or the status
-- and the offset are those of the error, and nothing else is written (CARv1, CARv2).
abbrev pub OpensAt :
    (limit : ℕ) → List ℕ → (status : ℕ) → Variable CarPlace → Variable (List CidBytes)
    → (needed offset : Variable ℕ) → Type 0
OpensAt limit car status place buffer needed offset =
    ((roots : List Link) × IsOpenedAt limit car roots place.after
    × Fills (map record_of roots) status buffer.before buffer.after needed.after
    × (offset.after ≡ offset.before))
    ⊎ ((error : CarError) × FaultOf limit (Some car) error × (status ≡ car_status error.kind)
    × (offset.after ≡ error.offset) × (place.after ≡ place.before)
    × IsUntouched buffer.before buffer.after needed.before needed.after)

-- ---- More bytes

-- True if the bytes are a varint of at most `limit` and fewer bytes than it counts, and `n` more
-- are those up to the last one that it counts, or up to `room` bytes if these are fewer.
pub record IsShortBy (limit room : ℕ) (bytes : List ℕ) (n : ℕ) : Type 0 where
  pub size : List ℕ
  pub content : List ℕ
  pub total : ℕ
  pub size_encoded : IsVarint total size
  pub within_limit : total ≤ limit
  pub short : length content < total
  pub encoded : bytes ≡ size ++ content
  pub missing : length bytes + n ≡ min (length size + total) room

-- True if the bytes at hand, of `room`, are too few for a header or a section, and it needs at
-- least `n` more: one if they end within its length.
abbrev pub NeedsMore : (limit room : ℕ) → List ℕ → (n : ℕ) → Type 0
NeedsMore limit room bytes n =
    (length bytes < room) × (1 ≤ n) × ((BeginsVarint bytes × (n ≡ 1)) ⊎ IsShortBy limit room bytes n)

-- True if `got` are too few bytes of what comes after the pragma of version 2 and before the
-- payload, and `n` more are the rest of its header or, if the header places the payload, of the
-- padding.
abbrev pub NeedsPayload : (got : List ℕ) → (n : ℕ) → Type 0
NeedsPayload got n =
    (1 ≤ n) × (((length got < 40) × (length got + n ≡ 40))
    ⊎ ((40 ≤ length got) × (HasNoPayload got → ⊥) × (11 + length got + n ≡ start_in got)))

-- True if the bytes are too few for the part of a CAR before its sections, and it needs at least
-- `n` more: for the header of version 1 or the pragma, for what comes after the pragma, or for the
-- header of the payload.
pub data NeedsFront (limit : ℕ) (bytes : List ℕ) (n : ℕ) : Type 0 where
  in_header : NeedsMore limit (2 ^ 64 - 1) bytes n → NeedsFront limit bytes n
  in_version2 : (got : List ℕ) → bytes ≡ pragma ++ got → NeedsPayload got n → NeedsFront limit bytes n
  in_payload : (before taken : List ℕ) (size : ℕ) → IsBeforePayload before size → bytes ≡ before ++ taken → NeedsMore limit size taken n
      → NeedsFront limit bytes n

-- ---- The results

-- The byte at which the sections of a CAR of `len` bytes end: `len` for version 1, and otherwise the
-- `end` from the header.
abbrev pub sections_end : (version len end : ℕ) → ℕ
sections_end version len end = if version == 1 then len else end

-- The same if the number of bytes is not known.
abbrev pub open_end : (version end : ℕ) → ℕ
open_end version end = if version == 1 then 2 ^ 64 - 1 else end

-- the span of which the first byte of the CAR at hand is the byte `at`
abbrev pub moved : ℕ → Span → Span
moved at span = record { offset = at + span.offset; len = span.len }

-- The spans in the CAR, from those in its bytes from the byte `at` on.
abbrev pub spans_from : (at : ℕ) (cid block : Span) (next : ℕ) → SectionSpans
spans_from at cid block next = record { cid = moved at cid; block = moved at block; next = next }

-- The caller's variables of a call that looks for a section.
pub record Found : Type 0 where
  pub place : CarPlace
  pub spans : SectionSpans
  pub more : ℕ
  pub offset : ℕ

-- The variables, with the spans of the CID and the block in the bytes from the byte `at` on.
abbrev pub found : (at : ℕ) (place : CarPlace) (cid block : Span) (more offset : ℕ) → Found
found at place cid block more offset =
    record { place = place; spans = spans_from at cid block place.at; more = more; offset = offset }

-- True if the status is 176, other bytes may follow these, and the section needs at least `more` of
-- them. Nothing else is written.
abbrev pub AsksForSection : (limit is_all : ℕ) → List ℕ → (status : ℕ) → Variable Found → Type 0
AsksForSection limit is_all bytes status vars =
    (status ≡ 176) × (is_all ≡ 0) × (vars.before.place.at < open_end vars.before.place.version vars.before.place.end)
    × NeedsMore limit (open_end vars.before.place.version vars.before.place.end - vars.before.place.at) bytes vars.after.more
    × (vars.after.spans ≡ vars.before.spans) × (vars.after.offset ≡ vars.before.offset)

-- True if the section needs more bytes. Or the result is the same for any CAR that has these bytes
-- at the byte `at`: that of reading its section there.
abbrev pub FindsPart : (limit is_all : ℕ) → List ℕ → (status : ℕ) → Variable Found → Type 0
FindsPart limit is_all bytes status vars =
    AsksForSection limit is_all bytes status vars
    ⊎ ((vars.after.more ≡ vars.before.more)
    × ((car : List ℕ) → Continues vars.before.place.at bytes is_all car
    → FindsWithin limit
    (record { car = car; at = vars.before.place.at; end = sections_end vars.before.place.version (length car) vars.before.place.end })
    status (record { before = vars.before.spans; after = vars.after.spans })
    (record { before = vars.before.offset; after = vars.after.offset })))

-- True if the part before the sections needs more bytes: the status is 176, other bytes may follow
-- these, and at least `more` are needed. Nothing else is written. Or the result is the same for any
-- CAR that begins with these bytes: that of reading the part before its sections.
abbrev pub OpensPart :
    (limit is_all : ℕ) → List ℕ → (status : ℕ) → Variable CarPlace → Variable (List CidBytes)
    → (needed more offset : Variable ℕ) → Type 0
OpensPart limit is_all bytes status place buffer needed more offset =
    ((status ≡ 176) × (is_all ≡ 0) × NeedsFront limit bytes more.after × (place.after ≡ place.before)
    × (offset.after ≡ offset.before) × IsUntouched buffer.before buffer.after needed.before needed.after)
    ⊎ ((more.after ≡ more.before)
    × ((car : List ℕ) → Continues 0 bytes is_all car → OpensAt limit car status place buffer needed offset))

-- True if an allocation failed. Or these bounds are returned, and the roots go to the buffer if
-- they fit.
abbrev pub OpensAtAs :
    List Link → (opened : CarPlace) → (status : ℕ) → CarPlace → Variable (List CidBytes)
    → (needed : ℕ) → Type 0
OpensAtAs roots opened status place buffer needed =
    (status ≡ 1)
    ⊎ ((place ≡ opened) × Fills (map record_of roots) status buffer.before buffer.after needed)
