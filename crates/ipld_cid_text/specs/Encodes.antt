-- The bytes that the letters of a text encode, and the error of letters that do not encode bytes.
use Rattle.std.specs.Prelude.{◌≡◌, ◌<◌, ◌≤◌, ℕ, List, length, map, replicate, slice_index}
use Rattle.ipld_cid_text.specs.declared.base.Base.{Base}
use Rattle.ipld_cid_text.specs.declared.base.Base.TheVariants.{Base16Lower, Base32Lower, Base32Upper, Base36Lower, Base58Btc, Base64Url}
use Rattle.ipld_cid_text.specs.declared.error.TextError.{TextError}
use Rattle.ipld_cid_text.specs.declared.error.TextError.TheVariants.{UnknownBase, InvalidLength, InvalidLetter, UnusedBits, WrongVersion, Cid}
use Rattle.ipld_cid_text.specs.Digits.{IsBelow, SameNumber, IsGrouped, LeavesBits}
use Rattle.ipld_cid_text.specs.Base.{letter, size, IsLetter}

-- True if `digits` encode `bytes`. In base 16, 32 and 64 they are groups of bits (RFC 4648). In
-- base 36 and 58 they are the same number as the bytes, with an equal number of leading zeros.
abbrev pub IsEncoded : Base → List ℕ → List ℕ → Type 0
IsEncoded Base16Lower bytes digits = IsGrouped 4 bytes digits
IsEncoded Base32Lower bytes digits = IsGrouped 5 bytes digits
IsEncoded Base32Upper bytes digits = IsGrouped 5 bytes digits
IsEncoded Base36Lower bytes digits = SameNumber 256 bytes 36 digits
IsEncoded Base58Btc bytes digits = SameNumber 256 bytes 58 digits
IsEncoded Base64Url bytes digits = IsGrouped 6 bytes digits

-- True if `letters` represent `digits`, and all of these are digits of the base.
pub record AreDigits (base : Base) (letters digits : List ℕ) : Type 0 where
  pub below : IsBelow (size base) digits
  pub letters_are : letters ≡ map (letter base) digits

-- True if `place` is the place of the first character that is not a letter of the base.
pub record IsFirstOther (base : Base) (letters : List ℕ) (place : ℕ) : Type 0 where
  pub within : place < length letters
  pub other : IsLetter base (slice_index letters place) → ⊥
  pub before : (k : ℕ) → k < place → IsLetter base (slice_index letters k)

-- True if `letters` represent digits that encode `bytes`: as groups of 4, 5 or 6 bits, or as the
-- same number in base 36 or 58. (RFC 4648, sections 4 to 8, without padding; multibase: base36 and
-- base58btc.)
pub record Encodes (base : Base) (bytes letters : List ℕ) : Type 0 where
  pub digits : List ℕ
  pub encoded : IsEncoded base bytes digits
  pub letters_are : letters ≡ map (letter base) digits

-- True if the groups of `w` bits have at least `w` bits left after their last whole byte.
pub record HasGroupLeft (w : ℕ) (digits : List ℕ) : Type 0 where
  pub rest : List ℕ
  pub leaves : LeavesBits w digits rest
  pub many : w ≤ length rest

-- True if the groups of `w` bits have fewer than `w` bits left after their last whole byte, and not
-- all of these are zero.
pub record HasBitLeft (w : ℕ) (digits : List ℕ) : Type 0 where
  pub rest : List ℕ
  pub leaves : LeavesBits w digits rest
  pub few : length rest < w
  pub set : rest ≡ replicate (length rest) 0 → ⊥

-- True if the error is the reason why groups of `w` bits do not encode bytes (RFC 4648, section
-- 3.5). `InvalidLength`: at least `w` bits are left after the last byte. `UnusedBits`: fewer are
-- left, and one is set.
abbrev pub IsUngrouped : ℕ → List ℕ → TextError → Type 0
IsUngrouped w groups UnknownBase = ⊥
IsUngrouped w groups InvalidLength = HasGroupLeft w groups
IsUngrouped w groups (InvalidLetter place) = ⊥
IsUngrouped w groups UnusedBits = HasBitLeft w groups
IsUngrouped w groups WrongVersion = ⊥
IsUngrouped w groups (Cid error) = ⊥

-- True if the error is the reason why the digits do not encode bytes (RFC 4648, section 3.5):
-- `InvalidLength` or `UnusedBits`, as for groups of bits. Digits in base 36 and 58 have no such
-- error.
abbrev pub IsUnencoded : Base → List ℕ → TextError → Type 0
IsUnencoded Base16Lower digits error = IsUngrouped 4 digits error
IsUnencoded Base32Lower digits error = IsUngrouped 5 digits error
IsUnencoded Base32Upper digits error = IsUngrouped 5 digits error
IsUnencoded Base36Lower digits error = ⊥
IsUnencoded Base58Btc digits error = ⊥
IsUnencoded Base64Url digits error = IsUngrouped 6 digits error
