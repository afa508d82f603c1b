-- The position of an error.
use Rattle.std.specs.Prelude.{◌≡◌, ◌+◌, ℕ}
use Rattle.ipld_car.specs.declared.error.CarError.{CarError}
use Rattle.ipld_car.specs.declared.error.CarErrorKind.{CarErrorKind}

-- True if the error is in the header or section that begins at `begin`, `place` bytes after that,
-- and `fault` is true of its kind and of `place`.
pub record Fails (begin : ℕ) (fault : CarErrorKind → ℕ → Type 0) (error : CarError) : Type 0 where
  pub place : ℕ
  pub section : error.section ≡ begin
  pub offset : error.offset ≡ begin + place
  pub why : fault error.kind place
