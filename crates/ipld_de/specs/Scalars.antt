-- Readings of scalars: integers from an Integer in their range, and characters from a String of one
-- character (IPLD data model: Integer, String).
use Rattle.std.specs.Prelude.{◌≡◌, ℕ, ℤ, List, chars, Option, option_and_then}
use Rattle.ipld_tree.specs.Tree.{Tree, integer, text}
use Rattle.ipld_tree.specs.Convert.{integer_in, text_in, unsigned_at, signed_at, not_negative}
pub use Rattle.ipld_ser.specs.Scalars.{only_char}
use Rattle.ipld_ser.specs.declared.error.SerdeError.{SerdeError}
use Rattle.ipld_ser.specs.declared.error.SerdeError.TheVariants.{OutOfRange, NotOneChar}
use Rattle.ipld_de.specs.Reading.{wrong_kind}

-- the reading of an unsigned integer of `bits` bits
abbrev pub unsigned_reading : ℕ → Tree → Option ℕ
unsigned_reading bits t = option_and_then (unsigned_at bits) (integer_in t)

-- the reading of a signed integer of `bits` bits, including the sign bit
abbrev pub signed_reading : ℕ → Tree → Option ℤ
signed_reading bits t = option_and_then (signed_at bits) (integer_in t)

-- the reading of an Integer of any size that is not negative
abbrev pub not_negative_reading : Tree → Option ℕ
not_negative_reading t = option_and_then not_negative (integer_in t)

-- The error of a tree that is not read as a number: `OutOfRange` if it is an Integer, and otherwise
-- `WrongKind`.
abbrev pub number_error : Tree → SerdeError
number_error (integer n) = OutOfRange
number_error t = wrong_kind t

-- True if `e` is the error of a tree that is not read as a number.
abbrev pub NumberError : Tree → SerdeError → Type 0
NumberError t e = e ≡ number_error t

-- the reading of a character: a string of one character
abbrev pub char_reading : Tree → Option ℕ
char_reading t = option_and_then (λ s. only_char (chars s)) (text_in t)

-- The error of a tree that is not read as a character: `NotOneChar` if it is a String, and
-- otherwise `WrongKind`.
abbrev pub char_error : Tree → SerdeError
char_error (text s) = NotOneChar
char_error t = wrong_kind t

-- True if `e` is the error of a tree that is not read as a character.
abbrev pub CharError : Tree → SerdeError → Type 0
CharError t e = e ≡ char_error t

-- True if `e` is `NotOneChar`, the error of a key that is not one character.
abbrev pub NotOneCharacter : List ℕ → SerdeError → Type 0
NotOneCharacter k e = e ≡ NotOneChar
