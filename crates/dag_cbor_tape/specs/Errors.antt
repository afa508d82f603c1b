-- The first invalid entry of a tape.
use Rattle.std.specs.Prelude.{ℕ, ◌-◌, ◌+◌, Result, Ok, Err}
use Rattle.dag_cbor_tape.specs.declared.error.EncodeErrorKind.{EncodeErrorKind}
use Rattle.dag_cbor_tape.specs.declared.error.EncodeError.{EncodeError}
use Rattle.dag_cbor_tape.specs.declared.error.Fault.{Fault}

-- the error of an entry, if `left` entries are left, itself included
abbrev pub fault : EncodeErrorKind → ℕ → Fault
fault kind left = record { kind = kind; left = left }

-- the error of a tape of `len` entries
abbrev pub error_of : ℕ → Fault → EncodeError
error_of len f = record { kind = f.kind; entry = len - f.left }

-- the second step after the first, or the first error
infixl 10 ◌>>=◌
abbrev pub ◌>>=◌ : {A B E : Type 0} → Result A E → (A → Result B E) → Result B E
(Ok x) >>= f = f x
(Err e) >>= f = Err e

-- the result, with the error of an entry, if `left` entries are left, itself included
abbrev pub at : {A : Type 0} → ℕ → Result A EncodeErrorKind → Result A Fault
at left (Ok x) = Ok x
at left (Err kind) = Err (fault kind left)

-- the result among entries that `more` entries follow
abbrev pub before : {A : Type 0} → ℕ → Result A Fault → Result A Fault
before more (Ok x) = Ok x
before more (Err f) = Err (fault f.kind (f.left + more))
