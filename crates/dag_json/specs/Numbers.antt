-- Numbers of JSON as values of the data model (IPLD's DAG-JSON specification: a number without a
-- fraction and an exponent is an integer).
use Rattle.std.specs.Prelude.{ℕ, ℤ, pos, negsuc, ◌^◌, ◌&&◌, ◌||◌, ◌==◌, nat_lt, if◌then◌else◌, Bool, List, length, Option, Some, None, Result, Ok, Err}
use Rattle.std.specs.Char.{is_ascii_digit}
use Rattle.std.specs.List.{list_all}
use Rattle.std.specs.Str.{all_ascii_digits}
use Rattle.std.specs.Str.Parse.{without_leading_sign, signed_digits_value}
use Rattle.dag_json.specs.declared.read_error.ReadErrorKind.{ReadErrorKind}
use Rattle.dag_json.specs.declared.read_error.ReadErrorKind.TheVariants.{Float, IntegerRange}

-- whether an integer fits in 128 bits, with its sign
abbrev pub fits : ℤ → Bool
fits (pos n) = nat_lt n (2 ^ 127)
fits (negsuc n) = nat_lt n (2 ^ 127)

-- whether a text is one or more decimal digits, after an optional sign
abbrev pub is_numeral : List ℕ → Bool
is_numeral s = nat_lt 0 (length (without_leading_sign s)) && all_ascii_digits (without_leading_sign s)

-- The integer of 128 bits that a number is. It is nothing if the number has a fraction or an
-- exponent, or does not fit (IPLD DAG-JSON; RFC 8259, section 6).
unfoldable pub integer_of : List ℕ → Option ℤ
integer_of s = if is_numeral s && fits (signed_digits_value 10 s) then Some (signed_digits_value 10 s) else None

-- whether a text has only digits and minus signs, so that a number is not a float
abbrev pub is_integral : List ℕ → Bool
is_integral s = list_all (λ c. c == 45 || is_ascii_digit c) s

abbrev pub number_or_error : Option ℤ → Bool → Result ℤ ReadErrorKind
number_or_error (Some n) integral = Ok n
number_or_error None integral = Err (if integral then IntegerRange else Float)

-- the integer that a number is, or the error if it is not one
abbrev pub number_read : List ℕ → Result ℤ ReadErrorKind
number_read s = number_or_error (integer_of s) (is_integral s)
