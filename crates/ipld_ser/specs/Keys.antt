-- The strings that are valid keys of maps, by the type of the keys.
use Rattle.std.specs.Prelude.{ℕ, List, Bool, true, chars, is_some, if◌then◌else◌, Option, Some, None}
use Rattle.ipld_ser.specs.Scalars.{only_char}

-- The string, if it is a key
abbrev pub key_in : (List ℕ → Bool) → List ℕ → Option (List ℕ)
key_in is_key s = if is_key s then Some s else None

-- Whether a string is a key if every string is: always true
abbrev pub any_text : List ℕ → Bool
any_text s = true

-- Whether a string is a single character
abbrev pub one_char : List ℕ → Bool
one_char s = is_some (only_char (chars s))
