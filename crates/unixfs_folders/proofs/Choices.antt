-- Tests, and results that are chosen by one.
use Rattle.std.proofs.Common.{◌≡◌, Bool, true, false, not, Result, Ok, Err, refl}
use Rattle.std.specs.Prelude.{if◌then◌else◌}

pub not_false : (b : Bool) → not b ≡ false → b ≡ true
not_false true is = refl
not_false false is = absurd cc

-- a value that is chosen unless there is an error
pub unless_error : {A E : Type 0} (b : Bool) (e : E) (r : Result A E) (x : A) → (if b then Err e else r) ≡ Ok x → (b ≡ false) × (r ≡ Ok x)
unless_error true e r x is = absurd cc
unless_error false e r x is = (refl, is)

-- a value that is chosen, or else there is an error
pub or_error : {A E : Type 0} (b : Bool) (e : E) (r : Result A E) (x : A) → (if b then r else Err e) ≡ Ok x → (b ≡ true) × (r ≡ Ok x)
or_error true e r x is = (refl, is)
or_error false e r x is = absurd cc
