-- The names of a struct's fields.
use Rattle.std.specs.Prelude.{◌≡◌, ℕ, List, [], ◌∷◌, Bool, true, false, if◌then◌else◌}
use Rattle.std.specs.Str.{bytes_eq}

-- Whether a key is one of the names
abbrev pub among : List ℕ → List (List ℕ) → Bool
among key [] = false
among key (name ∷ names) = if bytes_eq name key then true else among key names

-- True if no two of the names are equal
abbrev pub AreDistinct : List (List ℕ) → Type 0
AreDistinct [] = Unit {0}
AreDistinct (name ∷ names) = (among name names ≡ false) × AreDistinct names
