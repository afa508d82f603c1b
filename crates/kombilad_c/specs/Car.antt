-- The sections of a CAR, and where one is.
use Rattle.std.specs.Prelude.{◌≡◌, ◌+◌, ℕ, List}
use Rattle.ipld_car.specs.declared.version.CarVersion.{CarVersion}
use Rattle.ipld_car.specs.declared.version.CarVersion.TheVariants.{V1, V2}
use Rattle.ipld_car.specs.InMemory.{between, SpansSection}
use Rattle.ipld_car.specs.Section.{Block}
use Rattle.kombilad_c.specs.declared.positions.Span.{Span}

-- The number of a version
abbrev pub version_number : CarVersion → ℕ
version_number V1 = 1
version_number V2 = 2

-- The sections of `car` from the byte `at` to the byte `end`.
pub record Sections : Type 0 where
  pub car : List ℕ
  pub at : ℕ
  pub end : ℕ

-- The spans of a section's CID and of its block, and the byte at which the next section begins.
pub record SectionSpans : Type 0 where
  pub cid : Span
  pub block : Span
  pub next : ℕ

-- True if the section of the block begins at the byte `at`, its CID and its bytes are at these
-- spans, and the next section begins after it (CARv1, "Data").
abbrev pub StandsAt : Sections → Block → SectionSpans → Type 0
StandsAt s block spans =
    SpansSection (between s.at s.end s.car) s.at block
    (record { cid = spans.cid.offset; block = spans.block.offset; end = spans.next })
    × (spans.cid.offset + spans.cid.len ≡ spans.block.offset)
    × (spans.block.offset + spans.block.len ≡ spans.next)
