-- Contents that determine the value: two values are equal by `==` if and only if their contents are
-- equal.
use Rattle.std.specs.Prelude.{◌≡◌, Bool}
use Rattle.std.specs.Bool.{Decides}

-- True if `eq` decides whether the contents of two values are equal.
pub record EqualByContents {V C : Type 0} (eq : V → V → Bool) (contents : V → C) : Type 0 where
  pub decides : (v w : V) → Decides (eq v w) (contents v ≡ contents w)
