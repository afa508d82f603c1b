-- The sum of the sizes in a node.
use Rattle.std.proofs.Common.{◌≡◌, ℕ, ◌+◌, ◌<◌, ◌≤◌, List, [], ◌∷◌, length, Option, Some, None, refl, sym, ap, ◌∙◌, arith, Bool, true, false}
use Rattle.std.proofs.lemmas.Bool.{lt-ltb}
use Rattle.std.specs.Prelude.{sum, nat_lt, ◌^◌, MatchOption}
use Rattle.unixfs_files.specs.Parts.{within}

-- all sizes are added
pub ended : (total all : ℕ) (rest : List ℕ) → length rest ≡ 0 → total < 2 ^ 64 → total + sum rest ≡ all → Some total ≡ within all
ended total all [] none fits same =
    let is : total ≡ all = omega (arith, same) in
    let below : nat_lt all (2 ^ 64) ≡ true = lt-ltb all (2 ^ 64) (omega (arith, is)) in
    rw (below, is) refl
ended total all (x ∷ rest) none fits same = absurd (omega arith)

-- the case without a value, if there is none
pub without : {A : Type 0} (o : Option A) (P : Type 0) (Q : A → Type 0) → ((x : A) → o ≡ Some x → ⊥) → MatchOption o P Q → P
without None P Q none is = is
without (Some x) P Q none is = absurd (none x refl)
