-- The results of splitting a section off the front of bytes in memory.
use Rattle.std.specs.Prelude.{◌≡◌, ◌-◌, ◌^◌, ℕ, List, [], length, drop, take, Option, Some, None, Result, Ok, Err}
use Rattle.ipld_car.specs.declared.error.CarError.{CarError}
use Rattle.ipld_car.specs.declared.span.SectionSpan.{SectionSpan}
use Rattle.ipld_car.specs.Fails.{Fails}
use Rattle.ipld_car.specs.InMemory.{SpansSection}
use Rattle.ipld_car.specs.Reading.{TakingFault}
use Rattle.ipld_car.specs.Section.{Block}
use Rattle.ipld_car.specs.Taking.{IsOfReader}

-- True if the first `count` bytes are not a section, with this error, and `at` is the offset of the
-- first byte. The error is not a failed allocation or an error of a reader.
pub record LooksAt (bytes : List ℕ) (at count : ℕ) (error : CarError) : Type 0 where
  pub fails : Fails at (TakingFault (2 ^ 64 - 1) (length bytes) (Some bytes) (Some (drop count bytes)) (take count bytes)) error
  pub own : IsOfReader error.kind → ⊥

-- True if the result is the section of a block at the front of the bytes, nothing if there are no
-- bytes, or an error found in some number of bytes at the front.
abbrev pub SplitsSection : List ℕ → ℕ → Result (Option SectionSpan) CarError → Type 0
SplitsSection bytes at (Ok (Some span)) = (block : Block) × SpansSection bytes at block span
SplitsSection bytes at (Ok None) = bytes ≡ []
SplitsSection bytes at (Err error) = (count : ℕ) × LooksAt bytes at count error
