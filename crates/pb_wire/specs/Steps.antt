-- Readings in steps, each with a value or an error.
use Rattle.std.specs.Prelude.{Result, Ok, Err}

-- the second step after the first, or the first error
infixl 10 ◌>>=◌
abbrev pub ◌>>=◌ : {A B E : Type 0} → Result A E → (A → Result B E) → Result B E
(Ok x) >>= f = f x
(Err e) >>= f = Err e

-- the result, with `f` of its error
abbrev pub with_error : {A E F : Type 0} → (E → F) → Result A E → Result A F
with_error f (Ok x) = Ok x
with_error f (Err e) = Err (f e)
