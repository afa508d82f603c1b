-- The slots with which names begin.
use Rattle.std.proofs.Common.{◌≡◌, ◌<◌, ◌≤◌, ℕ, List, length, ap, subst, arith}
use Rattle.std.specs.Prelude.{slice_index}
use Rattle.std.specs.Str.{IsUtf8, IsCharBoundary}
use Rattle.std.proofs.lemmas.Str.{IsCharBoundary-after_ascii}

-- a character begins after two digits
pub after_two : (name bytes : List ℕ) → bytes ≡ name → IsUtf8 name → 2 ≤ length bytes → slice_index bytes 1 < 128 → IsCharBoundary name 2
after_two name bytes same utf8 long ascii =
    IsCharBoundary-after_ascii name 1 utf8 (let is = ap length same in omega arith) (subst (λ (bs : List ℕ). slice_index bs 1 < 128) same ascii)
