-- The meaning of a line for the words `links` and `refs`: a token (the kinds of serde's data
-- model), by a name, or by a name, one blank and a field.
use Rattle.std.specs.Prelude.{ℕ, ℤ, pos, neg_ℤ, ◌+◌, ◌^◌, ◌==◌, ◌&&◌, nat_lt, Bool, true, false, List, [], ◌∷◌, codes, Option, Some, None, option_map, option_and_then, if◌then◌else◌}
use Rattle.std.specs.List.{list_any, before_first, after_first}
use Rattle.std.specs.Map.{lookup}
use Rattle.std.specs.Result.{result_ok}
use Rattle.std.specs.Str.{bytes_eq, is_utf8, chars, all_ascii_digits}
use Rattle.std.specs.Str.Parse.{digits_value}
use Rattle.hex.specs.Hex.{decode_of}
use Rattle.ipld_tokens.specs.Token.{TokenModel, atom}
use Rattle.ipld_tokens.specs.Token as tok

-- ---- fields

-- the number of one or more decimal digits, if it is below the limit
abbrev pub numeral_below : ℕ → List ℕ → Option ℕ
numeral_below limit [] = None
numeral_below limit (c ∷ cs) =
    if all_ascii_digits (c ∷ cs) && nat_lt (digits_value 10 (c ∷ cs)) limit then Some (digits_value 10 (c ∷ cs)) else None

-- a number below the limit, parsed like in Rust: a numeral after an optional `+` (43)
unfoldable pub number_below : ℕ → List ℕ → Option ℕ
number_below limit [] = None
number_below limit (c ∷ cs) = if c == 43 then numeral_below limit cs else numeral_below limit (c ∷ cs)

-- an integer of 128 bits, parsed like in Rust: a numeral after an optional `+` or `-` (45)
unfoldable pub int_field : List ℕ → Option ℤ
int_field [] = None
int_field (c ∷ cs) =
    if c == 45 then option_map (λ n. neg_ℤ (pos n)) (numeral_below (2 ^ 127 + 1) cs) else option_map pos (number_below (2 ^ 127) (c ∷ cs))

-- the bool of `true` or `false`
unfoldable pub bool_field : List ℕ → Option Bool
bool_field field = if bytes_eq field (codes "true") then Some true else if bytes_eq field (codes "false") then Some false else None

-- the bytes of an even number of hexadecimal digits of either case (RFC 4648, section 8), at least
-- two, or no bytes for `-`
unfoldable pub bytes_field : List ℕ → Option (List ℕ)
bytes_field [] = None
bytes_field (c ∷ cs) = if bytes_eq (c ∷ cs) (codes "-") then Some [] else result_ok (decode_of (c ∷ cs))

abbrev pub if_utf8 : List ℕ → Option (List ℕ)
if_utf8 bytes = if is_utf8 bytes then Some bytes else None

-- a string, by its bytes in UTF-8
unfoldable pub text_field : List ℕ → Option (List ℕ)
text_field field = option_and_then if_utf8 (bytes_field field)

abbrev pub only_one : List ℕ → Option ℕ
only_one [] = None
only_one (c ∷ []) = Some c
only_one (c ∷ d ∷ cs) = None

-- the character of a string that has exactly one
unfoldable pub char_field : List ℕ → Option ℕ
char_field field = option_and_then (λ text. only_one (chars text)) (text_field field)

-- ---- names

-- the tokens that a name means without a field
abbrev pub plain_lines : List (List ℕ × TokenModel)
plain_lines =
    (codes "none", atom tok.none)
    ∷ (codes "unit", atom tok.unit)
    ∷ (codes "unitstruct", atom tok.unit_struct)
    ∷ (codes "some", tok.some)
    ∷ (codes "link", tok.link)
    ∷ (codes "seq", tok.seq)
    ∷ (codes "seqend", tok.seq_end)
    ∷ (codes "map", tok.map)
    ∷ (codes "mapend", tok.map_end)
    ∷ []

-- the meaning of a field after a name
abbrev pub field_lines : List (List ℕ × (List ℕ → Option TokenModel))
field_lines =
    (codes "bool", λ field. option_map (λ b. atom (tok.boolean b)) (bool_field field))
    ∷ (codes "int", λ field. option_map (λ n. atom (tok.integer n)) (int_field field))
    ∷ (codes "u128", λ field. option_map (λ n. atom (tok.unsigned n)) (number_below (2 ^ 128) field))
    ∷ (codes "char", λ field. option_map (λ c. atom (tok.character c)) (char_field field))
    ∷ (codes "str", λ field. option_map (λ s. atom (tok.text s)) (text_field field))
    ∷ (codes "bytes", λ field. option_map tok.bytes (bytes_field field))
    ∷ (codes "unitvariant", λ field. option_map (λ s. atom (tok.unit_variant s)) (text_field field))
    ∷ (codes "variant", λ field. option_map tok.variant (text_field field))
    ∷ (codes "seq", λ field. option_map (λ _. tok.seq) (number_below (2 ^ 64) field))
    ∷ (codes "map", λ field. option_map (λ _. tok.map) (number_below (2 ^ 64) field))
    ∷ []

unfoldable pub plain_token : List ℕ → Option TokenModel
plain_token name = lookup (bytes_eq name) plain_lines

unfoldable pub field_token : List ℕ → List ℕ → Option TokenModel
field_token name field = option_and_then (λ means. means field) (lookup (bytes_eq name) field_lines)

abbrev pub is_blank : ℕ → Bool
is_blank c = c == 32

-- The token that a line means, by its name, or by its name, one blank and a field. It is nothing if
-- the line means no token.
unfoldable pub token_of_line : List ℕ → Option TokenModel
token_of_line line =
    if list_any is_blank line then field_token (before_first is_blank line) (after_first is_blank line) else plain_token line
