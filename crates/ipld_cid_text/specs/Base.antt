-- The bases of multibase texts, with their prefixes and alphabets.
use Rattle.std.specs.Prelude.{◌≡◌, ◌<◌, ◌⊎◌, ◌==◌, ℕ, if◌then◌else◌, List, Option, Some, None, slice_index, codes}
use Rattle.ipld_cid_text.specs.declared.base.Base.{Base}
use Rattle.ipld_cid_text.specs.declared.base.Base.TheVariants.{Base16Lower, Base32Lower, Base32Upper, Base36Lower, Base58Btc, Base64Url}

-- The multibase prefix of a base (multibase).
abbrev pub prefix : Base → ℕ
prefix Base16Lower = 102
prefix Base32Lower = 98
prefix Base32Upper = 66
prefix Base36Lower = 107
prefix Base58Btc = 122
prefix Base64Url = 117

-- The base of a prefix, or nothing if the character is not a prefix (multibase).
abbrev pub base_of : ℕ → Option Base
base_of character =
    if character == 102 then Some Base16Lower
    else if character == 98 then Some Base32Lower
    else if character == 66 then Some Base32Upper
    else if character == 107 then Some Base36Lower
    else if character == 122 then Some Base58Btc
    else if character == 117 then Some Base64Url
    else None

-- The letters of a base, in the order of the digits 0, 1 and so on that they represent (RFC 4648:
-- base16 in lower case, base32, base64 for URLs; multibase: base36; base58btc).
unfoldable pub alphabet : Base → List ℕ
alphabet Base16Lower = codes "0123456789abcdef"
alphabet Base32Lower = codes "abcdefghijklmnopqrstuvwxyz234567"
alphabet Base32Upper = codes "ABCDEFGHIJKLMNOPQRSTUVWXYZ234567"
alphabet Base36Lower = codes "0123456789abcdefghijklmnopqrstuvwxyz"
alphabet Base58Btc = codes "123456789ABCDEFGHJKLMNPQRSTUVWXYZabcdefghijkmnopqrstuvwxyz"
alphabet Base64Url = codes "ABCDEFGHIJKLMNOPQRSTUVWXYZabcdefghijklmnopqrstuvwxyz0123456789-_"

-- The number of letters of a base.
abbrev pub size : Base → ℕ
size Base16Lower = 16
size Base32Lower = 32
size Base32Upper = 32
size Base36Lower = 36
size Base58Btc = 58
size Base64Url = 64

-- The letter of a digit in a base.
abbrev pub letter : Base → ℕ → ℕ
letter base digit = slice_index (alphabet base) digit

-- True if `character` is the letter of the base that represents `digit`.
pub record StandsFor (base : Base) (character digit : ℕ) : Type 0 where
  pub below : digit < size base
  pub letter_of : letter base digit ≡ character

-- True if `character` is a letter of the base.
pub record IsLetter (base : Base) (character : ℕ) : Type 0 where
  pub digit : ℕ
  pub stands : StandsFor base character digit

-- True if `value` is the entry of `character` in the table of the base: the digit that it
-- represents, or 255 if it is not a letter.
abbrev pub IsValue : Base → ℕ → ℕ → Type 0
IsValue base character value = StandsFor base character value ⊎ ((value ≡ 255) × (IsLetter base character → ⊥))
