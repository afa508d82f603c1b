-- The texts of scalars for people. Strings are as in JSON (RFC 8259, section 7), with every control
-- character escaped, bytes are in hexadecimal digits, and floats in decimal.
use Rattle.std.specs.Prelude.{◌≡◌, ◌≢◌, ℕ, ◌/◌, ◌%◌, ◌==◌, ◌&&◌, nat_lt, true, if◌then◌else◌, List, [], ◌∷◌, ◌++◌, codes, flat_map, encode_utf8, Some}
use Rattle.std.specs.Char.{digit_char}
use Rattle.std.specs.Float.{binary64, float_is_finite}
use Rattle.std.specs.Prelude.{from_bits}
use Rattle.std.specs.Str.{chars}
use Rattle.std.specs.declared.io.ErrorKind.{ErrorKind}
use Rattle.std.specs.declared.io.ErrorKind.TheVariants.{OutOfMemory as NoMemory}
use Rattle.ryu.specs.Parse.{parse_float}
use Rattle.ryu.specs.Plain.{IsPlainNumber}
use Rattle.ipld_show.specs.declared.error.ShowError.{ShowError}
use Rattle.ipld_show.specs.declared.error.ShowError.TheVariants.{Memory, Write}

-- the two hexadecimal digits of a byte
abbrev pub hex_pair : ℕ → List ℕ
hex_pair b = digit_char (b / 16) ∷ digit_char (b % 16) ∷ []

abbrev pub hex_text : List ℕ → List ℕ
hex_text bytes = flat_map hex_pair bytes

-- the escape of a control character by its code
abbrev pub by_code : ℕ → List ℕ
by_code c = codes "\\u00" ++ hex_pair c

-- the text of a character in a string: JSON's short escapes, and other control characters by their
-- codes
unfoldable pub character : ℕ → List ℕ
character c =
    if c == 34 then codes "\\\""
    else if c == 92 then codes "\\\\"
    else if c == 10 then codes "\\n"
    else if c == 13 then codes "\\r"
    else if c == 9 then codes "\\t"
    else if c == 8 then codes "\\b"
    else if c == 12 then codes "\\f"
    else if nat_lt c 32 then by_code c
    else if nat_lt 126 c && nat_lt c 160 then by_code c
    else encode_utf8 c

-- The string as JSON writes it (RFC 8259, section 7), with every control character escaped.
abbrev pub quoted : List ℕ → List ℕ
quoted s = 34 ∷ (flat_map character (chars s) ++ 34 ∷ [])

-- True if the text is a number with a point or an exponent that reads as the float of these bits,
-- if that is finite (IEEE 754, binary64).
abbrev pub IsFloatText : ℕ → List ℕ → Type 0
IsFloatText bits t = float_is_finite (from_bits binary64 bits) ≡ true → IsPlainNumber t × (parse_float binary64 t ≡ Some (from_bits binary64 bits))

-- True if an allocation failed.
abbrev pub IsMemory : ShowError → Type 0
IsMemory Memory = Unit {0}
IsMemory _ = ⊥

-- True if an allocation or the writer failed. If the writer ran out of memory, the error is that of
-- an allocation.
abbrev pub IsOutputError : ShowError → Type 0
IsOutputError Memory = Unit {0}
IsOutputError (Write kind) = kind ≢ NoMemory
IsOutputError _ = ⊥

-- True if the error is made from a writer's error of this kind: `Memory` if the writer ran out of
-- memory, and otherwise `Write` with the kind.
abbrev pub IsErrorOfWriter : ErrorKind → ShowError → Type 0
IsErrorOfWriter kind Memory = kind ≡ NoMemory
IsErrorOfWriter kind (Write same) = (same ≡ kind) × (kind ≢ NoMemory)
IsErrorOfWriter kind _ = ⊥
