-- The bytes after a write.
use Rattle.std.specs.Prelude.{◌≡◌, ◌+◌, ◌<◌, ◌++◌, ℕ, List, length, Option, Some, None}

-- True if there are bytes to write, and `after` is `before` with these bytes appended.
pub record Adds (written : Option (List ℕ)) (before after : List ℕ) : Type 0 where
  pub bytes : List ℕ
  pub is : written ≡ Some bytes
  pub appended : after ≡ before ++ bytes

-- True if `after` is `before` with some of the bytes to write appended, from the first on, and at
-- least one is missing.
pub record AddsPart (written : Option (List ℕ)) (before after : List ℕ) : Type 0 where
  pub part : List ℕ
  pub rest : List ℕ
  pub is : written ≡ Some (part ++ rest)
  pub missing : 0 < length rest
  pub appended : after ≡ before ++ part

-- True if a vector of `len` bytes has too little capacity for the bytes to write, or if there are
-- no bytes to write.
abbrev pub LacksCapacity : Option (List ℕ) → (capacity len : ℕ) → Type 0
LacksCapacity None capacity len = Unit {0}
LacksCapacity (Some bytes) capacity len = capacity < len + length bytes
