-- Readings in steps.
use Rattle.std.proofs.Common.{◌≡◌, Result, Ok, Err, refl, subst}
use Rattle.pb_wire.specs.Steps.{◌>>=◌, with_error}

-- the value of a step that did not fail
pub bind_ok : {A B E : Type 0} (r : Result A E) (f : A → Result B E) (y : B) → (r >>= f) ≡ Ok y → (x : A) × (r ≡ Ok x) × (f x ≡ Ok y)
bind_ok (Ok x) f y e = (x, refl, e)
bind_ok (Err d) f y e = absurd cc

-- what holds of a value holds of the equal one
pub same_ok : {A E : Type 0} (P : A → Type 0) (x y : A) → ◌≡◌ {A = Result A E} (Ok x) (Ok y) → P x → P y
same_ok P x y e p = let same : x ≡ y = cc in subst P same p

-- the value is that of the result with the other error
pub with_error_ok : {A E F : Type 0} (f : E → F) (r : Result A E) (x : A) → with_error f r ≡ Ok x → r ≡ Ok x
with_error_ok f (Ok y) x e = cc
with_error_ok f (Err d) x e = absurd cc

-- the rest of the reading depends on nothing but what a step returned
pub same_then : {A B E : Type 0} (r : Result A E) (f g : A → Result B E) → ((x : A) → r ≡ Ok x → f x ≡ g x) → (r >>= f) ≡ (r >>= g)
same_then (Ok x) f g same = same x refl
same_then (Err e) f g same = refl
