-- A bit field is the number with the bits of its slots.
use Rattle.std.proofs.Common.{◌≡◌, ◌<◌, ◌≤◌, ◌+◌, ◌-◌, ◌*◌, ◌/◌, ◌%◌, ◌^◌, ℕ, zero, suc, true, false, List, [], ◌∷◌, length, refl, sym, ap, subst, ◌∙◌, arith, inl, inr, replicate}
use Rattle.std.specs.Prelude.{◌==◌, ◌≢◌, slice_index, slice_set, bit_or}
use Rattle.std.specs.Int.{bit_at}
use Rattle.std.proofs.Math.Nat.{add-mul, zero-mul, div-eq_of_lt, lt_of_mul-lt-mul_right, pow-le-pow_right, two-pow-succ, pow-succ'}
use Rattle.std.proofs.lemmas.Bool.{cases_Bool}
use Rattle.std.proofs.lemmas.Bool.Decides.{nat_tests}
use Rattle.std.proofs.lemmas.List.{length-set}
use Rattle.std.proofs.lemmas.Nat.{or_disjoint, pow-add}
use Rattle.std.proofs.lemmas.Nat.Bits.{and_pow}
use Rattle.unixfs_folders.specs.Folders.{SlotParts, AreSlots, set_bit, set_bits, without_zeros, bit_field}
use Rattle.unixfs_folders.specs.Laws.{number_of, bits_of, HasNoZeros}

-- ---- zeros at the front

is_zero : (b : ℕ) → (b == 0) ≡ true → b ≡ 0
is_zero b is = grind (arith, nat_tests)

is_some : (b : ℕ) → (b == 0) ≡ false → b ≢ 0
is_some b is = λ same. let e : b ≡ 0 = same in absurd (grind (arith, nat_tests))

zero_plus : (n : ℕ) → 0 + n ≡ n
zero_plus n = omega arith

number_same : (bs : List ℕ) → number_of (without_zeros bs) ≡ number_of bs
number_same [] = refl
number_same (b ∷ bs) =
    elim (cases_Bool (b == 0)) [
      | inl none ↦
          rw none (number_same bs ∙ sym (zero_plus (number_of bs)) ∙ ap (λ (x : ℕ). x + number_of bs) (sym (zero-mul (256 ^ length bs))) ∙ ap (λ (x : ℕ). x * 256 ^ length bs + number_of bs) (sym (is_zero b none)))
      | inr some ↦ rw some refl
    ]

no_zeros : (bs : List ℕ) → HasNoZeros (without_zeros bs)
no_zeros [] = tt
no_zeros (b ∷ bs) =
    elim (cases_Bool (b == 0)) [
      | inl none ↦ rw none (no_zeros bs)
      | inr some ↦ rw some (is_some b some)
    ]

-- ---- one bit

exchanged : (x n y : ℕ) → x + n + y ≡ y + n + x
exchanged x n y = omega arith

carried : (x n m y z : ℕ) → n + y ≡ m + z → x + n + y ≡ x + m + z
carried x n m y z is = omega arith

-- the number with another byte at a place
number_set : (bits : List ℕ) (i e v : ℕ) → suc (i + e) ≡ length bits → number_of (slice_set bits i v) + slice_index bits i * 256 ^ e ≡ number_of bits + v * 256 ^ e
number_set [] i e v is = absurd (omega arith)
number_set (b ∷ bs) zero e v is =
    let same : e ≡ length bs = omega arith in
    subst (λ (n : ℕ). number_of (v ∷ bs) + b * 256 ^ n ≡ number_of (b ∷ bs) + v * 256 ^ n) (sym same) (exchanged (v * 256 ^ length bs) (number_of bs) (b * 256 ^ length bs))
number_set (b ∷ bs) (suc i) e v is =
    let more = number_set bs i e v (omega arith) in
    ap (λ (n : ℕ). b * 256 ^ n + number_of (slice_set bs i v) + slice_index bs i * 256 ^ e) (length-set bs i v)
    ∙ carried (b * 256 ^ length bs) (number_of (slice_set bs i v)) (number_of bs) (slice_index bs i * 256 ^ e) (v * 256 ^ e) more

within : (n m y z : ℕ) → n + y ≡ m + z → z ≡ 0 → y ≤ m
within n m y z is none = omega arith

byte_within : (bits : List ℕ) (i e : ℕ) → suc (i + e) ≡ length bits → slice_index bits i * 256 ^ e ≤ number_of bits
byte_within bits i e is = within (number_of (slice_set bits i 0)) (number_of bits) (slice_index bits i * 256 ^ e) (0 * 256 ^ e) (number_set bits i e 0 is) (zero-mul (256 ^ e))

power_of : (n : ℕ) → 2 ^ (8 * n) ≡ 256 ^ n
power_of zero = refl
power_of (suc n) =
    let more : 8 * suc n ≡ 8 + 8 * n = omega arith in
    ap (λ (m : ℕ). 2 ^ m) more ∙ pow-add 2 8 (8 * n) ∙ ap (λ (x : ℕ). 256 * x) (power_of n) ∙ sym (pow-succ' 256 n)

power_slot : (slot : ℕ) → 2 ^ slot ≡ 2 ^ (slot % 8) * 256 ^ (slot / 8)
power_slot slot =
    let parts : slot ≡ slot % 8 + 8 * (slot / 8) = omega arith in
    ap (λ (m : ℕ). 2 ^ m) parts ∙ pow-add 2 (slot % 8) (8 * (slot / 8)) ∙ ap (λ (x : ℕ). 2 ^ (slot % 8) * x) (power_of (slot / 8))

-- no bit of a number is as high as a power above it
bit_above : (b k : ℕ) → b < 2 ^ k → bit_at b k ≡ 0
bit_above b k below = ap (λ (q : ℕ). q % 2) (div-eq_of_lt below)

or_adds : (b k : ℕ) → b < 2 ^ k → bit_or b (2 ^ k) ≡ b + 2 ^ k
or_adds b k below = or_disjoint b (2 ^ k) (and_pow b k ∙ ap (λ (x : ℕ). x * 2 ^ k) (bit_above b k below) ∙ zero-mul (2 ^ k))

cancelled : (n m x y z : ℕ) → n + x ≡ m + (x + y) → y ≡ z → n ≡ m + z
cancelled n m x y z is same = omega arith

below_power : (x n p q : ℕ) → x ≤ n → n < p → p ≡ q → x < q
below_power x n p q within_n below same = omega arith

bit_adds : (bits : List ℕ) (slot : ℕ) → length bits ≡ 32 → slot < 256 → number_of bits < 2 ^ slot → number_of (set_bit bits slot) ≡ number_of bits + 2 ^ slot
unfolding set_bit
bit_adds bits slot long small below =
    let i = 31 - slot / 8 in
    let e = slot / 8 in
    let k = slot % 8 in
    let place : suc (31 - slot / 8 + slot / 8) ≡ length bits = omega arith in
    let byte = slice_index bits i in
    let scaled : byte * 256 ^ e < 2 ^ k * 256 ^ e = below_power (byte * 256 ^ e) (number_of bits) (2 ^ slot) (2 ^ k * 256 ^ e) (byte_within bits i e place) below (power_slot slot) in
    let free : byte < 2 ^ k = lt_of_mul-lt-mul_right (256 ^ e) scaled in
    cancelled (number_of (slice_set bits i (bit_or byte (2 ^ k)))) (number_of bits) (byte * 256 ^ e) (2 ^ k * 256 ^ e) (2 ^ slot)
    (number_set bits i e (bit_or byte (2 ^ k)) place ∙ ap (λ (x : ℕ). number_of bits + x) (ap (λ (x : ℕ). x * 256 ^ e) (or_adds byte k free) ∙ add-mul byte (2 ^ k) (256 ^ e)))
    (sym (power_slot slot))

-- ---- all bits

set_long : (bits : List ℕ) (slot : ℕ) → length bits ≡ 32 → length (set_bit bits slot) ≡ 32
unfolding set_bit
set_long bits slot long = length-set bits (31 - slot / 8) (bit_or (slice_index bits (31 - slot / 8)) (2 ^ (slot % 8))) ∙ long

grouped : (all one n p b : ℕ) → all ≡ one + b → one ≡ n + p → all ≡ n + (p + b)
grouped all one n p b is one_is = omega arith

doubled : (one n p q : ℕ) → one ≡ n + p → n < p → q ≡ p + p → one < q
doubled one n p q is below twice = omega arith

raised : (n p q : ℕ) → n < p → p ≤ q → n < q
raised n p q below more = omega arith

bits_add : (least : ℕ) (bits : List ℕ) (ss : List SlotParts) → length bits ≡ 32 → AreSlots least ss → number_of bits < 2 ^ least → number_of (set_bits bits ss) ≡ number_of bits + bits_of ss
bits_add least bits [] long are below = omega arith
bits_add least bits (s ∷ ss) long are below =
    let lower = raised (number_of bits) (2 ^ least) (2 ^ s.slot) below (pow-le-pow_right (omega arith) are.0) in
    let one = bit_adds bits s.slot long are.1 lower in
    let more = bits_add (suc s.slot) (set_bit bits s.slot) ss (set_long bits s.slot long) are.3
    (doubled (number_of (set_bit bits s.slot)) (number_of bits) (2 ^ s.slot) (2 ^ suc s.slot) one lower (two-pow-succ s.slot)) in
    grouped (number_of (set_bits (set_bit bits s.slot) ss)) (number_of (set_bit bits s.slot)) (number_of bits) (2 ^ s.slot) (bits_of ss) more one

none_set : number_of (replicate 32 0) ≡ 0
none_set = refl

none_yet : number_of (replicate 32 0) < 2 ^ 0
none_yet = subst (λ (n : ℕ). n < 2 ^ 0) (sym none_set) (omega arith)

pub field_number : (ss : List SlotParts) → AreSlots 0 ss → number_of (bit_field ss) ≡ bits_of ss
unfolding bit_field
field_number ss are =
    number_same (set_bits (replicate 32 0) ss) ∙ bits_add 0 (replicate 32 0) ss refl are none_yet ∙ ap (λ (n : ℕ). n + bits_of ss) none_set ∙ zero_plus (bits_of ss)

pub field_tight : (ss : List SlotParts) → HasNoZeros (bit_field ss)
unfolding bit_field
field_tight ss = no_zeros (set_bits (replicate 32 0) ss)
