-- Where a text and the one that is written of its tree differ.
use Rattle.std.proofs.Common.{◌≡◌, ◌≢◌, ◌⊎◌, inl, inr, ◌≤◌, ◌<◌, ℕ, zero, suc, List, [], ◌∷◌, length, take, get_or, Option, Some, None, refl, sym, ap, ◌∙◌, arith}
use Rattle.std.specs.Prelude.{slice_get}
use Rattle.std.proofs.lemmas.Bool.{cases_lt}
use Rattle.std.proofs.lemmas.List.{ext_get_or}
use Rattle.std.proofs.lemmas.Option.{slice_get_past, slice_get-get_or}
use Rattle.ipld_tree.specs.Tree.{Tree}
use Rattle.dag_json.specs.Canonical.{DifferFrom, IsWrittenOtherwise}
use Rattle.dag_json.specs.Written.{written}

same_start : (n : ℕ) (a b : List ℕ) → n ≤ length a → n ≤ length b → ((k : ℕ) → k < n → get_or a k 0 ≡ get_or b k 0) → take n a ≡ take n b
same_start zero a b h g same = refl
same_start (suc n) [] b h g same = absurd (omega arith)
same_start (suc n) (x ∷ a) [] h g same = absurd (omega arith)
same_start (suc n) (x ∷ a) (y ∷ b) h g same =
    let first : x ≡ y = same 0 (omega arith) in
    let rest = same_start n a b (omega arith) (omega arith) (λ k less. same (suc k) (omega arith)) in
    cc

-- lists that are alike up to a place, to which both come, and there have two elements or one has ended
differ_there : (n : ℕ) (a b : List ℕ) → n ≤ length a → n ≤ length b → ((k : ℕ) → k < n → get_or a k 0 ≡ get_or b k 0) → (n < length a → n < length b → get_or a n 0 ≢ get_or b n 0)
    → (a ≡ b → ⊥) → (n < length a) ⊎ (length a ≤ n) → (n < length b) ⊎ (length b ≤ n) → slice_get a n ≢ slice_get b n
differ_there n a b h g same other apart (inl p) (inl q) =
    λ e. let alike : ◌≡◌ {A = Option ℕ} (Some (get_or a n 0)) (Some (get_or b n 0)) = sym (slice_get-get_or a n 0 p) ∙ e ∙ slice_get-get_or b n 0 q in
    other p q cc
differ_there n a b h g same other apart (inl p) (inr q) =
    λ e. let clash : ◌≡◌ {A = Option ℕ} (Some (get_or a n 0)) None = sym (slice_get-get_or a n 0 p) ∙ e ∙ slice_get_past b n q in
    absurd cc
differ_there n a b h g same other apart (inr p) (inl q) =
    λ e. let clash : ◌≡◌ {A = Option ℕ} None (Some (get_or b n 0)) = sym (slice_get_past a n p) ∙ e ∙ slice_get-get_or b n 0 q in
    absurd cc
differ_there n a b h g same other apart (inr p) (inr q) = λ e. apart (ext_get_or 0 a b (omega arith) (λ i less. same i (omega arith)))

pub differ_from : (n : ℕ) (a b : List ℕ) → n ≤ length a → n ≤ length b → ((k : ℕ) → k < n → get_or a k 0 ≡ get_or b k 0) → (n < length a → n < length b → get_or a n 0 ≢ get_or b n 0)
    → (a ≡ b → ⊥) → DifferFrom a b n
differ_from n a b h g same other apart = (same_start n a b h g same, differ_there n a b h g same other apart (cases_lt n (length a)) (cases_lt n (length b)))

pub otherwise_not : (t : Tree) (s : List ℕ) (place : ℕ) → IsWrittenOtherwise t s place → written t ≡ Some s → ⊥
otherwise_not t s place w e =
    let alike : ◌≡◌ {A = Option (List ℕ)} (Some w.0) (Some s) = sym w.1 ∙ e in
    let same : w.0 ≡ s = cc in
    w.2.1 (ap (λ u. slice_get u place) same)
