-- Floats that are finite are numbers.
use Rattle.std.proofs.Common.{◌≡◌, ℕ, true, not, from_bits, sym, subst, ◌∙◌, T}
use Rattle.std.specs.Float.{binary64, float_is_finite}
use Rattle.std.specs.Float.Ieee.{nan_bits}
use Rattle.ryu.proofs.Signs.{finite_number}
use lib.Ieee.Bits.{nan_bits_is}

pub no_nan : (bits : ℕ) → nan_bits binary64 bits ≡ true → float_is_finite (from_bits binary64 bits) ≡ true → ⊥
no_nan bits n h = subst (λ b. T (not b)) (sym (nan_bits_is binary64 bits) ∙ n) (finite_number (from_bits binary64 bits) h)
