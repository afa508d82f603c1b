-- Steps and tests that came to a value.
use Rattle.std.proofs.Common.{◌≡◌, ℕ, Bool, true, false, cond, Option, Some, None, Result, Ok, Err, refl}
use Rattle.dag_cbor_tape.specs.declared.error.EncodeErrorKind.{EncodeErrorKind}
use Rattle.dag_cbor_tape.specs.declared.error.Fault.{Fault}
use Rattle.dag_cbor_tape.specs.Errors.{◌>>=◌, at, before}

-- the value of a step that did not fail
pub bind_ok : {A B E : Type 0} (r : Result A E) (f : A → Result B E) (y : B) → (r >>= f) ≡ Ok y → (x : A) × (r ≡ Ok x) × (f x ≡ Ok y)
bind_ok (Ok x) f y e = (x, refl, e)
bind_ok (Err d) f y e = absurd cc

-- equal values
pub ok_same : {A E : Type 0} (x y : A) → ◌≡◌ {A = Result A E} (Ok x) (Ok y) → x ≡ y
ok_same x y e = cc

pub some_same : {A : Type 0} (x y : A) → Some x ≡ Some y → x ≡ y
some_same x y e = cc

pub at_ok : {A : Type 0} (left : ℕ) (r : Result A EncodeErrorKind) (x : A) → at left r ≡ Ok x → r ≡ Ok x
at_ok left (Ok y) x e = cc
at_ok left (Err k) x e = absurd cc

pub before_ok : {A : Type 0} (more : ℕ) (r : Result A Fault) (x : A) → before more r ≡ Ok x → r ≡ Ok x
before_ok more (Ok y) x e = cc
before_ok more (Err k) x e = absurd cc

-- a test that holds, or an error
pub then_ok : {A E : Type 0} (b : Bool) (r : Result A E) (e : E) (y : A) → cond b r (Err e) ≡ Ok y → (b ≡ true) × (r ≡ Ok y)
then_ok true r e y is = (refl, is)
then_ok false r e y is = absurd cc

-- a test that doesn't, or an error
pub else_ok : {A E : Type 0} (b : Bool) (r : Result A E) (e : E) (y : A) → cond b (Err e) r ≡ Ok y → (b ≡ false) × (r ≡ Ok y)
else_ok true r e y is = absurd cc
else_ok false r e y is = (refl, is)

pub else_some : {A : Type 0} (b : Bool) (o : Option A) (y : A) → cond b None o ≡ Some y → (b ≡ false) × (o ≡ Some y)
else_some true o y is = absurd cc
else_some false o y is = (refl, is)
