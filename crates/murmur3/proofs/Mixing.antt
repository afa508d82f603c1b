-- The words of the state, wrapped after each operation.
use Rattle.std.proofs.Common.{◌≡◌, ◌+◌, ◌*◌, ◌%◌, ◌^◌, ℕ, bit_xor, arith, ap, ◌∙◌}
use Rattle.std.specs.Int.{w64, rotate_left}
use Rattle.murmur3.specs.Murmur3.{next_h1, next_h2}

wrapped : (a b m : ℕ) → ((a + b) % 2 ^ 64 * 5 % 2 ^ 64 + m) % 2 ^ 64 ≡ ((a + b) * 5 + m) % 2 ^ 64
wrapped a b m = omega arith

pub next_h1-wrapped : (h1 h2 k1 turned : ℕ) → turned ≡ rotate_left w64 (bit_xor h1 k1) 27
    → ((turned + h2) % 2 ^ 64 * 5 % 2 ^ 64 + 0x52DCE729) % 2 ^ 64 ≡ next_h1 h1 h2 k1
unfolding next_h1
next_h1-wrapped h1 h2 k1 turned e = wrapped turned h2 0x52DCE729 ∙ ap (λ t. ((t + h2) * 5 + 0x52DCE729) % 2 ^ 64) e

pub next_h2-wrapped : (h1 h2 k2 turned : ℕ) → turned ≡ rotate_left w64 (bit_xor h2 k2) 31
    → ((turned + h1) % 2 ^ 64 * 5 % 2 ^ 64 + 0x38495AB5) % 2 ^ 64 ≡ next_h2 h1 h2 k2
unfolding next_h2
next_h2-wrapped h1 h2 k2 turned e = wrapped turned h1 0x38495AB5 ∙ ap (λ t. ((t + h1) * 5 + 0x38495AB5) % 2 ^ 64) e
