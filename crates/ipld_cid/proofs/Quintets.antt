-- Bits in groups of five.
use Rattle.std.proofs.Common.{◌≡◌, ℕ, zero, suc, ◌+◌, ◌*◌, ◌/◌, ◌%◌, ◌^◌, ◌<◌, ◌≤◌, ◌-◌, ◌⊎◌, inl, inr, List, [], ◌∷◌, ◌++◌, length, refl, sym, ap, ◌∙◌, append_assoc, arith, pow-suc, add-zero, true, ltb}
use Rattle.std.proofs.lemmas.Nat.{shr-shr, pow_pos}
use Rattle.std.proofs.Math.Nat.{mul-add-div_right}
use Rattle.std.specs.Prelude.{map, take, drop, replicate}
use Rattle.std.proofs.lemmas.List.{append-nil, drop-drop, length-drop, length-take, take-append-drop}
use Rattle.std.specs.List.{flat_map, list_all}
use Rattle.std.specs.Str.{IsAscii}
use Rattle.std.proofs.lemmas.Str.Ascii.{IsAscii-nil, IsAscii-cons}
use Rattle.std.proofs.lemmas.Bool.{and_parts, ltb-true}
use Rattle.std.specs.Simd.{first_chunks}
use Rattle.ipld_cid.specs.Base32.{bits, byte_bits, quintets, alphabet, letter, base32}

-- the high bits, and then the low ones
pub bits-append : (w v n : ℕ) → bits (w + v) n ≡ bits w (n / 2 ^ v) ++ bits v n
bits-append zero v n = let none : 0 + v ≡ v = omega arith in rw none refl
bits-append (suc w) v n =
    let more : suc w + v ≡ suc (w + v) = omega arith in
    let turned : v + w ≡ w + v = omega arith in
    let shifted : n / 2 ^ v / 2 ^ w ≡ n / 2 ^ (w + v) = shr-shr n v w ∙ ap (λ (k : ℕ). n / 2 ^ k) turned in
    rw (more, shifted) (ap (λ (bs : List ℕ). (n / 2 ^ (w + v) % 2) ∷ bs) (bits-append w v n))

-- what stands above w bits doesn't matter to them
pub bits-low : (w high low : ℕ) → bits w (high * 2 ^ w + low) ≡ bits w low
bits-low zero high low = refl
bits-low (suc w) high low =
    let wider : high * 2 ^ (suc w) + low ≡ 2 * high * 2 ^ w + low = rw (pow-suc 2 w) (omega arith) in
    let shifted : (2 * high * 2 ^ w + low) / 2 ^ w ≡ 2 * high + low / 2 ^ w = mul-add-div_right (pow_pos w) (2 * high) low in
    let here : (2 * high + low / 2 ^ w) % 2 ≡ low / 2 ^ w % 2 = omega arith in
    rw (wider, shifted, here) (ap (λ (bs : List ℕ). (low / 2 ^ w % 2) ∷ bs) (bits-low w (2 * high) low))

-- five bits are one group
pub quintets-bits : (n w : ℕ) (rest : List ℕ) → quintets (bits (5 + w) n ++ rest) ≡ (n / 2 ^ w % 32) ∷ quintets (bits w n ++ rest)
quintets-bits n w rest =
    let group = n / 2 ^ w in
    rw (bits-append 5 w n) (ap (λ (g : ℕ). g ∷ quintets (bits w n ++ rest)) (let e : 16 * (group / 16 % 2) + 8 * (group / 8 % 2) + 4 * (group / 4 % 2) + 2 * (group / 2 % 2) + (group / 1 % 2) ≡ group % 32 = omega arith in e))

-- a byte more
pub bits-byte : (w n byte : ℕ) → byte < 256 → bits (w + 8) (n * 256 + byte) ≡ bits w n ++ bits 8 byte
bits-byte w n byte fits =
    let high : (n * 256 + byte) / 256 ≡ n = omega arith in
    bits-append w 8 (n * 256 + byte) ∙ ap (λ (k : ℕ). bits w k ++ bits 8 (n * 256 + byte)) high ∙ ap (λ (bs : List ℕ). bits w n ++ bs) (bits-low 8 n byte)

-- the number of five bytes, most significant first
abbrev pub number_of : (a b c d e : ℕ) → ℕ
number_of a b c d e = (((a * 256 + b) * 256 + c) * 256 + d) * 256 + e

-- five bytes are the forty bits of their number
pub bits-block : (a b c d e : ℕ) → b < 256 → c < 256 → d < 256 → e < 256 → bits 40 (number_of a b c d e) ≡ byte_bits (a ∷ b ∷ c ∷ d ∷ e ∷ [])
bits-block a b c d e fits_b fits_c fits_d fits_e =
    bits-byte 32 (((a * 256 + b) * 256 + c) * 256 + d) e fits_e
    ∙ ap (λ (bs : List ℕ). bs ++ bits 8 e) (bits-byte 24 ((a * 256 + b) * 256 + c) d fits_d
    ∙ ap (λ (bs : List ℕ). bs ++ bits 8 d) (bits-byte 16 (a * 256 + b) c fits_c
    ∙ ap (λ (bs : List ℕ). bs ++ bits 8 c) (bits-byte 8 a b fits_b)))

-- forty bits are eight groups
pub quintets-block : (n : ℕ) → quintets (bits 40 n)
    ≡ (n / 2 ^ 35 % 32) ∷ (n / 2 ^ 30 % 32) ∷ (n / 2 ^ 25 % 32) ∷ (n / 2 ^ 20 % 32) ∷ (n / 2 ^ 15 % 32) ∷ (n / 2 ^ 10 % 32) ∷ (n / 2 ^ 5 % 32) ∷ (n % 32) ∷ []
quintets-block n =
    let below : ℕ → List ℕ → List ℕ = λ w groups. (n / 2 ^ w % 32) ∷ groups in
    let last : n / 1 % 32 ≡ n % 32 = omega arith in
    quintets-bits n 35 [] ∙ ap (below 35) (quintets-bits n 30 [] ∙ ap (below 30) (quintets-bits n 25 [] ∙ ap (below 25) (quintets-bits n 20 []
    ∙ ap (below 20) (quintets-bits n 15 [] ∙ ap (below 15) (quintets-bits n 10 [] ∙ ap (below 10) (quintets-bits n 5 []
    ∙ ap (below 5) (quintets-bits n 0 [] ∙ ap (λ (g : ℕ). g ∷ []) last)))))))

-- the letters of five bytes, by their number
pub base32-block : (n a b c d e : ℕ) → b < 256 → c < 256 → d < 256 → e < 256 → n ≡ number_of a b c d e
    → base32 (a ∷ b ∷ c ∷ d ∷ e ∷ [])
    ≡ letter (n / 2 ^ 35 % 32) ∷ letter (n / 2 ^ 30 % 32) ∷ letter (n / 2 ^ 25 % 32) ∷ letter (n / 2 ^ 20 % 32) ∷ letter (n / 2 ^ 15 % 32) ∷ letter (n / 2 ^ 10 % 32) ∷ letter (n / 2 ^ 5 % 32) ∷ letter (n % 32) ∷ []
unfolding base32
base32-block n a b c d e fits_b fits_c fits_d fits_e is =
    ap (λ (bs : List ℕ). map letter (quintets bs)) (sym (bits-block a b c d e fits_b fits_c fits_d fits_e) ∙ ap (bits 40) (sym is))
    ∙ ap (map letter) (quintets-block n)

-- whole blocks of five bytes, and then others
base32-append_blocks : (front rest : List ℕ) → length front % 5 ≡ 0 → base32 (front ++ rest) ≡ base32 front ++ base32 rest
unfolding base32
base32-append_blocks [] rest h = refl
base32-append_blocks (a ∷ b ∷ c ∷ d ∷ e ∷ front) rest h =
    ap (λ (letters : List ℕ). base32 (a ∷ b ∷ c ∷ d ∷ e ∷ []) ++ letters) (base32-append_blocks front rest (omega arith))
base32-append_blocks (a ∷ []) rest h = absurd (omega arith)
base32-append_blocks (a ∷ b ∷ []) rest h = absurd (omega arith)
base32-append_blocks (a ∷ b ∷ c ∷ []) rest h = absurd (omega arith)
base32-append_blocks (a ∷ b ∷ c ∷ d ∷ []) rest h = absurd (omega arith)

nothing_more : (front rest : List ℕ) → rest ≡ [] → base32 (front ++ rest) ≡ base32 front ++ base32 rest
unfolding base32
nothing_more front rest none =
    ap (λ (bytes : List ℕ). base32 (front ++ bytes)) none ∙ ap base32 (append-nil front) ∙ sym (append-nil (base32 front)) ∙ ap (λ (bytes : List ℕ). base32 front ++ base32 bytes) (sym none)

pub base32-append : (front rest : List ℕ) → (length front % 5 ≡ 0) ⊎ (rest ≡ []) → base32 (front ++ rest) ≡ base32 front ++ base32 rest
base32-append front rest even = elim even [
  | inl whole ↦ base32-append_blocks front rest whole
  | inr none ↦ nothing_more front rest none
]

-- the letters of pieces of whole blocks, and then those of the rest
pub base32-pieces : (w k : ℕ) (xs : List ℕ) → w % 5 ≡ 0 → k * w ≤ length xs → base32 xs ≡ flat_map base32 (first_chunks w k xs) ++ base32 (drop (k * w) xs)
base32-pieces w zero xs even h = let none : 0 * w ≡ 0 = omega arith in ap (λ (n : ℕ). base32 (drop n xs)) (sym none)
base32-pieces w (suc k) xs even h =
    let more : suc k * w ≡ w + k * w = omega arith in
    let left : length (drop w xs) ≡ length xs - w = length-drop w xs in
    let front : length (take w xs) ≡ w = omega (arith, length-take w xs, h, more) in
    ap base32 (sym (take-append-drop w xs))
    ∙ base32-append_blocks (take w xs) (drop w xs) (ap (λ (n : ℕ). n % 5) front ∙ even)
    ∙ ap (λ (letters : List ℕ). base32 (take w xs) ++ letters) (base32-pieces w k (drop w xs) even (omega (arith, h, more, left)))
    ∙ sym (append_assoc (base32 (take w xs)) (flat_map base32 (first_chunks w k (drop w xs))) (base32 (drop (k * w) (drop w xs))))
    ∙ ap (λ (rest : List ℕ). flat_map base32 (first_chunks w (suc k) xs) ++ base32 rest) (drop-drop (k * w) w xs ∙ ap (λ (n : ℕ). drop n xs) (sym more))

-- the letters of fewer than five bytes are the first of those of a block that zeros fill
pub base32-last : (xs : List ℕ) → length xs < 5 → take ((8 * length xs + 4) / 5) (base32 (xs ++ drop (length xs) (replicate 5 0))) ≡ base32 xs
unfolding base32
base32-last [] h = refl
base32-last (a ∷ []) h = simp add-zero
base32-last (a ∷ b ∷ []) h = simp add-zero
base32-last (a ∷ b ∷ c ∷ []) h = simp add-zero
base32-last (a ∷ b ∷ c ∷ d ∷ []) h = simp add-zero
base32-last (a ∷ b ∷ c ∷ d ∷ e ∷ xs) h = absurd (omega arith)

-- a text whose letters pass the test is ASCII
pub ascii_by_test : (xs : List ℕ) → list_all (λ b. ltb b 128) xs ≡ true → IsAscii xs
ascii_by_test [] h = IsAscii-nil
ascii_by_test (x ∷ xs) h = let parts = and_parts (ltb x 128) (list_all (λ b. ltb b 128) xs) h in IsAscii-cons x xs (ltb-true x 128 parts.0) (ascii_by_test xs parts.1)

letters-ascii : (groups : List ℕ) → IsAscii (map letter groups)
letters-ascii [] = IsAscii-nil
letters-ascii (g ∷ groups) = IsAscii-cons (letter g) (map letter groups) (ascii_by_test alphabet refl g) (letters-ascii groups)

-- letters are ASCII
pub base32-ascii : (xs : List ℕ) → IsAscii (base32 xs)
unfolding base32
base32-ascii xs = letters-ascii (quintets (byte_bits xs))
