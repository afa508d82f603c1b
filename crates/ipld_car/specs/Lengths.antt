-- The varint before a header or a section, by the bytes that were taken for it.
use Rattle.std.specs.Prelude.{◌≡◌, ◌≢◌, ◌≤◌, ◌<◌, ℕ, List, [], ◌∷◌, ◌++◌, length, Option, Some, None, Result, Ok, Err}
use Rattle.ipld_cid.specs.declared.error.CidError.{CidError}
use Rattle.ipld_cid.specs.declared.error.CidError.TheVariants.{End, NotShortest as VarintNotShortest, VarintTooLarge}
use Rattle.ipld_cid.specs.Varint.{IsVarint, read_varint}
use Rattle.ipld_car.specs.declared.error.CarErrorKind.{CarErrorKind}
use Rattle.ipld_car.specs.declared.error.CarErrorKind.TheVariants.{Memory, Read, UnexpectedEnd, LengthNotShortest, LengthTooLarge}
use Rattle.ipld_car.specs.Taking.{Ends, IsReadError}

-- the error of a byte of a length, from the error of the byte as part of a varint
abbrev pub kind_of : Option CidError → Option CarErrorKind
kind_of None = None
kind_of (Some VarintTooLarge) = Some LengthTooLarge
kind_of (Some error) = Some LengthNotShortest

-- True if the bytes end within a varint, or are empty.
abbrev pub BeginsVarint : List ℕ → Type 0
BeginsVarint bytes = read_varint bytes ≡ Err End

-- True if the bytes without the last one end within a varint or are empty, and reading a varint
-- from all of them returns `error`.
pub record IsNoVarint (bytes : List ℕ) (error : CidError) : Type 0 where
  pub front : List ℕ
  pub last : ℕ
  pub parts : bytes ≡ front ++ last ∷ []
  pub begins : BeginsVarint front
  pub error_is : read_varint bytes ≡ Err error

-- True if the bytes taken are not a varint, for this reason. An allocation or the reader fails only
-- before `room` bytes were taken.
abbrev pub LengthFault : ℕ → Option (List ℕ) → Option (List ℕ) → List ℕ → CarErrorKind → Type 0
LengthFault room old new taken Memory = BeginsVarint taken × (length taken < room)
LengthFault room old new taken (Read error) = BeginsVarint taken × IsReadError error × (length taken < room)
LengthFault room old new taken UnexpectedEnd = BeginsVarint taken × (taken ≢ []) × Ends room old new taken
LengthFault room old new taken LengthNotShortest = IsNoVarint taken VarintNotShortest
LengthFault room old new taken LengthTooLarge = IsNoVarint taken VarintTooLarge
LengthFault room old new taken _ = ⊥

-- True if the result of reading a length fits the bytes taken: the number of their varint, nothing
-- at the end if they are empty, or the reason why they are not a varint.
abbrev pub ReadsLength : ℕ → Option (List ℕ) → Option (List ℕ) → List ℕ → Result (Option ℕ) CarErrorKind → Type 0
ReadsLength room old new taken (Ok None) = (taken ≡ []) × Ends room old new taken
ReadsLength room old new taken (Ok (Some n)) = IsVarint n taken × (length taken ≤ room)
ReadsLength room old new taken (Err kind) = LengthFault room old new taken kind
