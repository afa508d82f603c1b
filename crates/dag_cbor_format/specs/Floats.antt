-- Floats in DAG-CBOR (RFC 8949, section 3.3, and the DAG-CBOR specification, "Floats"): 64 bits
-- after the byte 251, neither NaN nor an infinity. If floats are read, a float is read as null,
-- since it contains no other values and no links.
use Rattle.std.specs.Prelude.{◌≡◌, ℕ, ◌+◌, ◌*◌, ◌/◌, ◌%◌, ◌==◌, ◌&&◌, not, Bool, true, false, if◌then◌else◌, List, [], ◌∷◌, length, Option, Some, None}
use Rattle.ipld_tokens.specs.Token.{atom, none}
use Rattle.dag_cbor_format.specs.declared.error.CborError.{CborError}
use Rattle.dag_cbor_format.specs.declared.error.CborError.TheVariants.{End, Float}
use Rattle.dag_cbor_format.specs.ItemHeader.{Beginning, scalar, front, item_header_at}
use Rattle.dag_cbor_format.specs.Errors.{item_header_error}

-- the exponent of the eight bytes of a float (IEEE 754, binary64): the eleven bits after the sign
abbrev pub exponent : List ℕ → ℕ
exponent (a ∷ b ∷ rest) = a % 128 * 16 + b / 16
exponent _ = 0

-- Whether the exponent of a float of 64 bits is not all ones, so that it is neither a NaN nor an
-- infinity (IEEE 754; the DAG-CBOR specification, "Floats").
abbrev pub is_finite : List ℕ → Bool
is_finite bytes = not (exponent bytes == 2047)

-- True if the bytes are a finite float of 64 bits: its head, and its eight bytes (RFC 8949, section
-- 3.3; IEEE 754).
pub record IsFloat (bytes : List ℕ) : Type 0 where
  pub content : List ℕ
  pub is : bytes ≡ 251 ∷ content
  pub wide : length content ≡ 8
  pub finite : is_finite content ≡ true

-- ---- the beginning of an item

-- whether the bytes begin with the head of a float
abbrev pub has_float_head : List ℕ → Bool
has_float_head [] = false
has_float_head (b ∷ bs) = b == 251

-- null and the bytes that follow, if the eight bytes are those of a finite float
abbrev pub if_finite : Option (List ℕ × List ℕ) → Option (Beginning × List ℕ)
if_finite None = None
if_finite (Some (content, rest)) = if is_finite content then Some (scalar (atom none), rest) else None

-- null and the bytes that follow, if eight bytes of a finite float come after the head of a float
abbrev pub float_at : List ℕ → Option (Beginning × List ℕ)
float_at [] = None
float_at (b ∷ bs) = if_finite (front 8 bs)

-- the error of fewer than eight bytes, or of eight bytes that are not a finite float
abbrev pub error_of_float : Option (List ℕ × List ℕ) → CborError
error_of_float None = End
error_of_float (Some cut) = Float

-- the error after the head of a float
abbrev pub float_error : List ℕ → CborError
float_error [] = End
float_error (b ∷ bs) = error_of_float (front 8 bs)

-- the beginning of an item and the bytes that follow it, with floats or without
abbrev pub beginning_at : Bool → List ℕ → Option (Beginning × List ℕ)
beginning_at floats bytes = if floats && has_float_head bytes then float_at bytes else item_header_at bytes

-- the error of bytes that do not begin with an item, with floats or without
abbrev pub beginning_error : Bool → List ℕ → CborError
beginning_error floats bytes = if floats && has_float_head bytes then float_error bytes else item_header_error bytes
