-- The sections of a CAR in memory.
use Rattle.std.specs.Prelude.{◌≡◌, ◌+◌, ◌-◌, ◌<◌, ◌^◌, ℕ, List, ◌++◌, length, take, drop}
use Rattle.ipld_cid.specs.Varint.{IsVarint}
use Rattle.ipld_cid.specs.declared.error.CidError.TheVariants.{NotShortest as VarintNotShortest, VarintTooLarge}
use Rattle.ipld_car.specs.declared.error.CarErrorKind.{CarErrorKind}
use Rattle.ipld_car.specs.declared.error.CarErrorKind.TheVariants.{UnexpectedEnd, ShortPayload, LengthNotShortest, LengthTooLarge, Empty, Cid}
use Rattle.ipld_car.specs.declared.span.SectionSpan.{SectionSpan}
use Rattle.ipld_car.specs.Framing.{IsCut}
use Rattle.ipld_car.specs.Lengths.{IsNoVarint}
use Rattle.ipld_car.specs.Reading.{HasNoCid}
use Rattle.ipld_car.specs.Section.{Block, IsSection}

-- The bytes from offset `at` to offset `end`, as far as `bytes` has them.
abbrev pub between : ℕ → ℕ → List ℕ → List ℕ
between at end bytes = take (end - at) (drop at bytes)

-- True if `P` is true of some bytes that `bytes` begins with.
abbrev pub Begins : List ℕ → (List ℕ → Type 0) → Type 0
Begins bytes P = (front rest : List ℕ) × (bytes ≡ front ++ rest) × P front

-- True if the bytes begin with the section of the block, and `span` has the offsets of its parts,
-- if the first byte has the offset `at` (CARv1, "Data").
pub record SpansSection (bytes : List ℕ) (at : ℕ) (block : Block) (span : SectionSpan) : Type 0 where
  pub section : List ℕ
  pub rest : List ℕ
  pub parts : bytes ≡ section ++ rest
  pub is_section : IsSection section block
  pub cid_begins : span.cid ≡ at + length is_section.size
  pub block_begins : span.block ≡ span.cid + length is_section.cid
  pub ends : span.end ≡ at + length section

-- True if the bytes end within a varint, or are a varint and fewer bytes than it counts, and
-- `place` is their end. They may be empty.
abbrev pub IsCutAt : List ℕ → ℕ → Type 0
IsCutAt bytes place = IsCut (2 ^ 64 - 1) bytes × (place ≡ length bytes)

-- True if the bytes do not begin with a section, for this reason and at this place. There should be
-- `room` bytes. The payload should have `size` bytes, by its header, and has `found`.
abbrev pub SpanFault : (bytes : List ℕ) (room size found : ℕ) → CarErrorKind → ℕ → Type 0
SpanFault bytes room size found UnexpectedEnd place = IsCutAt bytes place × (length bytes ≡ room)
SpanFault bytes room size found (ShortPayload expected came) place = IsCutAt bytes place × (length bytes < room) × (expected ≡ size) × (came ≡ found)
SpanFault bytes room size found LengthNotShortest place = Begins bytes (λ front. IsNoVarint front VarintNotShortest × (place ≡ length front - 1))
SpanFault bytes room size found LengthTooLarge place = Begins bytes (λ front. IsNoVarint front VarintTooLarge × (place ≡ length front - 1))
SpanFault bytes room size found Empty place = Begins bytes (λ front. IsVarint 0 front × (place ≡ 0))
SpanFault bytes room size found (Cid error) place = Begins bytes (λ front. HasNoCid (2 ^ 64 - 1) (length bytes) front error place)
SpanFault bytes room size found _ place = ⊥
