-- Base32 (RFC 4648, section 6) in lower case and without padding.
use Rattle.std.specs.Prelude.{◌+◌, ◌*◌, ◌/◌, ◌%◌, ◌^◌, ℕ, zero, suc, List, [], ◌∷◌, map, slice_index, codes}
use Rattle.std.specs.List.{flat_map}

-- The w low bits of n, most significant first (RFC 4648, section 6).
abbrev pub bits : ℕ → ℕ → List ℕ
bits zero n = []
bits (suc w) n = (n / 2 ^ w % 2) ∷ bits w n

-- The bits of bytes, the most significant bit of every byte first (RFC 4648, section 6).
abbrev pub byte_bits : List ℕ → List ℕ
byte_bits bytes = flat_map (bits 8) bytes

-- The alphabet: the letters for 0 to 31
abbrev pub alphabet : List ℕ
alphabet = codes "abcdefghijklmnopqrstuvwxyz234567"

-- The letter of a group of five bits (RFC 4648, section 6, in lower case).
abbrev pub letter : ℕ → ℕ
letter value = slice_index alphabet value

-- The numbers of the groups of five bits, in order. The last group is filled with zero bits
-- (RFC 4648, section 6, without padding).
abbrev pub quintets : List ℕ → List ℕ
quintets [] = []
quintets (a ∷ []) = (16 * a) ∷ []
quintets (a ∷ b ∷ []) = (16 * a + 8 * b) ∷ []
quintets (a ∷ b ∷ c ∷ []) = (16 * a + 8 * b + 4 * c) ∷ []
quintets (a ∷ b ∷ c ∷ d ∷ []) = (16 * a + 8 * b + 4 * c + 2 * d) ∷ []
quintets (a ∷ b ∷ c ∷ d ∷ e ∷ rest) = (16 * a + 8 * b + 4 * c + 2 * d + e) ∷ quintets rest

-- The base32 letters of bytes (RFC 4648, section 6, in lower case and without padding).
unfoldable pub base32 : List ℕ → List ℕ
base32 bytes = map letter (quintets (byte_bits bytes))
