-- A const parameter that is a bool, which a proof has as a number.
use Rattle.std.proofs.Common.{ℕ, Bool, not, eqb}

abbrev pub is_on : ℕ → Bool
is_on n = not (eqb n 0)
