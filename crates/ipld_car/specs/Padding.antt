-- Zeros after the last section, which end the sections if the reader is told to allow them.
use Rattle.std.specs.Prelude.{◌≡◌, ℕ, nat_eq, Bool, true, false, IfSome, List, [], ◌∷◌, Option, None, Some}

-- whether the first byte is 0; false if there is none
abbrev pub begins_with_zero : List ℕ → Bool
begins_with_zero [] = false
begins_with_zero (byte ∷ bytes) = nat_eq byte 0

-- True if `is_zero` tells whether the next byte is 0, or if the bytes are not known.
abbrev pub IsNextZero : Option (List ℕ) → Bool → Type 0
IsNextZero remaining is_zero = IfSome remaining (λ bytes. is_zero ≡ begins_with_zero bytes)

-- True if zeros are allowed after the last section, and the next byte is 0, or the bytes before are
-- not known.
abbrev pub IsPadded : Bool → (before after : Option (List ℕ)) → Type 0
IsPadded padding None after = padding ≡ true
IsPadded padding (Some bytes) after = (padding ≡ true) × ((rest : List ℕ) × (after ≡ Some (0 ∷ rest)))
