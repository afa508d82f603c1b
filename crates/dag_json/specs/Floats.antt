-- Numbers of a text with floats, as integers of a tree: a float is an integer that DAG-CBOR does
-- not have (RFC 8949, section 3, and IPLD's DAG-JSON specification: a number without a fraction and
-- an exponent is an integer).
use Rattle.std.specs.Prelude.{ℕ, ℤ, pos, negsuc, ◌+◌, ◌-◌, ◌^◌, nat_lt, if◌then◌else◌, Bool, true, false, List, Option, Some, None, Result, Ok, Err, to_bits}
use Rattle.std.specs.Float.{Float, binary64, float_is_finite}
use Rattle.std.specs.Float.Parse.{parse_float}
use Rattle.dag_json.specs.Numbers.{number_read}
use Rattle.dag_json.specs.declared.floats.Number.{Number}
use Rattle.dag_json.specs.declared.floats.Number.TheVariants as kind
use Rattle.dag_json.specs.declared.read_error.ReadErrorKind.{ReadErrorKind}
use Rattle.dag_json.specs.declared.read_error.ReadErrorKind.TheVariants as error

-- whether an integer is from -2^64 to 2^64 - 1
abbrev pub is_cbor_integer : ℤ → Bool
is_cbor_integer (pos n) = nat_lt n (2 ^ 64)
is_cbor_integer (negsuc n) = nat_lt n (2 ^ 64)

-- the integer that represents a float: 2^64 plus the number that its 64 bits are (IEEE 754,
-- binary64)
abbrev pub float_number : Float → ℤ
float_number x = pos (2 ^ 64 + to_bits binary64 x)

abbrev pub finite_number : Option Float → Result ℤ ReadErrorKind
finite_number None = Err error.Float
finite_number (Some x) = if float_is_finite x then Ok (float_number x) else Err error.Float

-- the integer that a number represents if floats are read, by the result of reading it without
-- floats
abbrev pub number_or_float : List ℕ → Result ℤ ReadErrorKind → Result ℤ ReadErrorKind
number_or_float s (Ok n) = if is_cbor_integer n then Ok n else Err error.IntegerRange
number_or_float s (Err error.Float) = finite_number (parse_float binary64 s)
number_or_float s (Err other) = Err other

-- The integer that a number represents if floats are read, or the error. An integer of DAG-CBOR
-- represents itself. A number with a fraction or an exponent is the integer that represents the
-- float nearest to it.
unfoldable pub float_read : List ℕ → Result ℤ ReadErrorKind
float_read s = number_or_float s (number_read s)

-- The integer that represents a number, or the error if no integer does. If floats are read, an
-- integer from -2^64 to 2^64 - 1 is itself. A number with a fraction or an exponent is then 2^64
-- plus the 64 bits of the float that std's `parse_float` returns, if that is finite (IEEE 754,
-- binary64; IPLD DAG-JSON).
abbrev pub number_in : Bool → List ℕ → Result ℤ ReadErrorKind
number_in false s = number_read s
number_in true s = float_read s

-- ---- the number that an integer of such a tree represents

-- The number of a text that an integer of a tree represents, if floats are read. An integer from
-- -2^64 to 2^64 - 1 represents itself. One from 2^64 to 2^65 - 1 represents the float whose 64 bits
-- are the integer minus 2^64. Any other represents nothing (IEEE 754, binary64).
abbrev pub number_as : ℤ → Option Number
number_as (negsuc n) = if nat_lt n (2 ^ 64) then Some (kind.Negative n) else None
number_as (pos n) =
    if nat_lt n (2 ^ 64) then Some (kind.Unsigned n) else if nat_lt (n - 2 ^ 64) (2 ^ 64) then Some (kind.Float (n - 2 ^ 64)) else None
