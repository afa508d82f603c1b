-- The tables of letters, and the digits of letters.
use Rattle.std.proofs.Common.{◌≡◌, ℕ, ◌<◌, ◌≤◌, ◌⊎◌, inl, inr, Bool, true, cond, eqb, ltb, List, get_or, refl, sym, ap, ◌∙◌, arith}
use Rattle.std.specs.Prelude.{◌&&◌}
use Rattle.std.proofs.lemmas.Bool.{agree_below_at, and_parts, ltb-true, eqb-true, cond_below, cond_above, cases_lt}
use Rattle.ipld_cid_text.specs.declared.base.Base.{Base}
use Rattle.ipld_cid_text.specs.declared.base.Base.TheVariants.{Base16Lower, Base32Lower, Base32Upper, Base36Lower, Base58Btc, Base64Url}
use Rattle.ipld_cid_text.specs.declared.letters.TheConstants.{HEX_VALUES, BASE32_UPPER_VALUES, BASE36_VALUES, BASE58_VALUES, BASE64_VALUES}
use Rattle.ipld_cid.specs.declared.base32.TheConstants.{BASE32_VALUES}
use Rattle.ipld_cid_text.specs.Base.{alphabet, size, letter, IsValue}

-- a table as a function of the base
abbrev pub table : Base → List ℕ
table Base16Lower = HEX_VALUES
table Base32Lower = BASE32_VALUES
table Base32Upper = BASE32_UPPER_VALUES
table Base36Lower = BASE36_VALUES
table Base58Btc = BASE58_VALUES
table Base64Url = BASE64_VALUES

-- the value of a character is its digit, or 255
abbrev value_right : Base → ℕ → Bool
value_right base c = cond (ltb (get_or (table base) c 0) (size base)) (eqb (letter base (get_or (table base) c 0)) c) (eqb (get_or (table base) c 0) 255)

-- the value of a digit's letter is that digit, and the letter is ASCII
abbrev digit_right : Base → ℕ → Bool
digit_right base d = eqb (get_or (table base) (letter base d) 0) d && ltb (letter base d) 128

value_at : (base : Base) (c : ℕ) → c < 256 → value_right base c ≡ true
unfolding alphabet
value_at Base16Lower c fits = agree_below_at (value_right Base16Lower) (λ k. true) 256 c refl fits
value_at Base32Lower c fits = agree_below_at (value_right Base32Lower) (λ k. true) 256 c refl fits
value_at Base32Upper c fits = agree_below_at (value_right Base32Upper) (λ k. true) 256 c refl fits
value_at Base36Lower c fits = agree_below_at (value_right Base36Lower) (λ k. true) 256 c refl fits
value_at Base58Btc c fits = agree_below_at (value_right Base58Btc) (λ k. true) 256 c refl fits
value_at Base64Url c fits = agree_below_at (value_right Base64Url) (λ k. true) 256 c refl fits

digit_at : (base : Base) (d : ℕ) → d < size base → digit_right base d ≡ true
unfolding alphabet
digit_at Base16Lower d fits = agree_below_at (digit_right Base16Lower) (λ k. true) 16 d refl fits
digit_at Base32Lower d fits = agree_below_at (digit_right Base32Lower) (λ k. true) 32 d refl fits
digit_at Base32Upper d fits = agree_below_at (digit_right Base32Upper) (λ k. true) 32 d refl fits
digit_at Base36Lower d fits = agree_below_at (digit_right Base36Lower) (λ k. true) 36 d refl fits
digit_at Base58Btc d fits = agree_below_at (digit_right Base58Btc) (λ k. true) 58 d refl fits
digit_at Base64Url d fits = agree_below_at (digit_right Base64Url) (λ k. true) 64 d refl fits

pub letter-value : (base : Base) (d : ℕ) → d < size base → get_or (table base) (letter base d) 0 ≡ d
letter-value base d fits = eqb-true (get_or (table base) (letter base d) 0) d (and_parts (eqb (get_or (table base) (letter base d) 0) d) (ltb (letter base d) 128) (digit_at base d fits)).0

pub letter-ascii : (base : Base) (d : ℕ) → d < size base → letter base d < 128
letter-ascii base d fits = ltb-true (letter base d) 128 (and_parts (eqb (get_or (table base) (letter base d) 0) d) (ltb (letter base d) 128) (digit_at base d fits)).1

-- a letter has one digit
pub letter-one : (base : Base) (d e : ℕ) → d < size base → e < size base → letter base d ≡ letter base e → d ≡ e
letter-one base d e few small same = sym (letter-value base d few) ∙ ap (λ (c : ℕ). get_or (table base) c 0) same ∙ letter-value base e small

size_small : (base : Base) → size base ≤ 64
size_small Base16Lower = omega arith
size_small Base32Lower = omega arith
size_small Base32Upper = omega arith
size_small Base36Lower = omega arith
size_small Base58Btc = omega arith
size_small Base64Url = omega arith

-- what passes the test is the value of a character
from_test : (base : Base) (c v : ℕ) → cond (ltb v (size base)) (eqb (letter base v) c) (eqb v 255) ≡ true → ((d : ℕ) → d < size base → letter base d ≡ c → v ≡ d)
    → (v < size base) ⊎ (size base ≤ v) → IsValue base c v
from_test base c v test only (inl small) = inl (record { below = small; letter_of = eqb-true (letter base v) c (cond_below v (size base) (eqb (letter base v) c) (eqb v 255) small ∙ test) })
from_test base c v test only (inr large) =
    inr (
      eqb-true v 255 (cond_above v (size base) (eqb (letter base v) c) (eqb v 255) (eqb v 255) large refl ∙ test),
      λ l. absurd (let e : v ≡ l.digit = only l.digit l.stands.below l.stands.letter_of in omega (arith, e, large, l.stands.below)),
    )

-- what the table has for a character
pub value-is : (base : Base) (c : ℕ) → c < 256 → IsValue base c (get_or (table base) c 0)
value-is base c fits =
    from_test base c (get_or (table base) c 0) (value_at base c fits)
    (λ d few is. ap (λ (k : ℕ). get_or (table base) k 0) (sym is) ∙ letter-value base d few) (cases_lt (get_or (table base) c 0) (size base))
