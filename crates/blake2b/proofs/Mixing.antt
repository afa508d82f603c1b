-- The mixing function and the rounds, line by line.
use Rattle.std.proofs.Common.{◌≡◌, ◌<◌, ◌+◌, ◌%◌, ◌^◌, ℕ, true, List, ltb, get_or, refl, ap, arith, slice_index, slice_set, bit_xor}
use Rattle.std.proofs.lemmas.Bool.{agree_below_at, ltb-true}
use Rattle.std.specs.Int.{w64, rotate_right}
use Rattle.blake2b.specs.Blake2b.{add_at, mix, rotate_at, sigma}

-- a sum of three words, wrapped after each addition
pub add_at-wrapped : (v : List ℕ) (i j x : ℕ)
    → slice_set v i (((slice_index v i + slice_index v j) % 2 ^ 64 + x) % 2 ^ 64) ≡ add_at v i j x
unfolding add_at
add_at-wrapped v i j x = ap (slice_set v i) (omega arith)

-- a sum of two words
pub add_at-zero : (v : List ℕ) (i j : ℕ)
    → slice_set v i ((slice_index v i + slice_index v j) % 2 ^ 64) ≡ add_at v i j 0
unfolding add_at
add_at-zero v i j = ap (slice_set v i) (omega arith)

pub rotate_at-is : (v : List ℕ) (i j r word : ℕ)
    → word ≡ rotate_right w64 (bit_xor (slice_index v i) (slice_index v j)) r → slice_set v i word ≡ rotate_at v i j r
unfolding rotate_at
rotate_at-is v i j r word e = ap (slice_set v i) e

-- the eight lines in turn
pub mix-lines : (v v1 v2 v3 v4 v5 v6 v7 v8 : List ℕ) (a b c d x y : ℕ)
    → v1 ≡ add_at v a b x → v2 ≡ rotate_at v1 d a 32 → v3 ≡ add_at v2 c d 0 → v4 ≡ rotate_at v3 b c 24
    → v5 ≡ add_at v4 a b y → v6 ≡ rotate_at v5 d a 16 → v7 ≡ add_at v6 c d 0 → v8 ≡ rotate_at v7 b c 63
    → v8 ≡ mix v a b c d x y
unfolding mix
mix-lines v v1 v2 v3 v4 v5 v6 v7 v8 a b c d x y e1 e2 e3 e4 e5 e6 e7 e8 = rw (e8, e7, e6, e5, e4, e3, e2, e1) refl

-- each place of the schedule is that of a word
pub sigma_below : (n : ℕ) → n < 160 → get_or sigma n 0 < 16
sigma_below n fits =
    ltb-true (get_or sigma n 0) 16 (agree_below_at (λ k. ltb (get_or sigma k 0) 16) (λ k. true) 160 n refl fits)
