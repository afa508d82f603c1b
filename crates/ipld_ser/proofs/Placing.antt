-- Names put at their places among names in order.
use Rattle.std.proofs.Common.{◌≡◌, ◌⊎◌, inl, inr, ℕ, zero, suc, ◌+◌, ◌-◌, ◌<◌, ◌≤◌, List, [], ◌∷◌, ◌++◌, length, drop, slice_get, get_or, Bool, true, false, cond, Option, Some, None, refl, ap, sym, subst, ◌∙◌, arith, zero-le, suc-le-suc}
use Rattle.std.specs.Prelude.{insert}
use Rattle.std.specs.Borrow.{Bor}
use Rattle.std.proofs.lemmas.Option.{same_Some, slice_get_within, get_or_from_slice_get}
use Rattle.ipld_ser.specs.ImageWriter.{comes_first, filed, filed_from, indexed}

-- those before a place come first
abbrev pub ComeFirst : List ℕ → List (Bor (List ℕ) × ℕ) → ℕ → Type 0
ComeFirst k xs i = (j : ℕ) (e : Bor (List ℕ) × ℕ) → j < i → slice_get xs j ≡ Some e → comes_first e.0.now k ≡ true

pub none_first : (k : List ℕ) (xs : List (Bor (List ℕ) × ℕ)) → ComeFirst k xs 0
none_first k xs j e lt is = absurd (omega (arith, lt))

first_or_before : (i j : ℕ) → j < i + 1 → (j < i) ⊎ (j ≡ i)
first_or_before zero zero lt = inr refl
first_or_before zero (suc j) lt = absurd (omega (arith, lt))
first_or_before (suc i) zero lt = inl (suc-le-suc zero-le)
first_or_before (suc i) (suc j) lt =
    elim (first_or_before i j (omega (arith, lt))) [
      | inl before ↦ inl (suc-le-suc before)
      | inr same ↦ inr (ap suc same)
    ]

pub one_more_first : (k : List ℕ) (xs : List (Bor (List ℕ) × ℕ)) (i : ℕ) (d : Bor (List ℕ) × ℕ) → ComeFirst k xs i → comes_first (get_or xs i d).0.now k ≡ true → ComeFirst k xs (i + 1)
one_more_first k xs i d before first j e lt is =
    elim (first_or_before i j lt) [
      | inl earlier ↦ before j e earlier is
      | inr same ↦
          let found : slice_get xs i ≡ Some e = ap (slice_get xs) (sym same) ∙ is in
          ap (λ (y : Bor (List ℕ) × ℕ). comes_first y.0.now k) (sym (get_or_from_slice_get xs i e d found)) ∙ first
    ]

-- the one at a place doesn't come first
pub one_behind : (k : List ℕ) (xs : List (Bor (List ℕ) × ℕ)) (i : ℕ) (d : Bor (List ℕ) × ℕ) → comes_first (get_or xs i d).0.now k ≡ false → (e : Bor (List ℕ) × ℕ) → slice_get xs i ≡ Some e → comes_first e.0.now k ≡ false
one_behind k xs i d behind e is = ap (λ (y : Bor (List ℕ) × ℕ). comes_first y.0.now k) (sym (get_or_from_slice_get xs i e d is)) ∙ behind

pub none_behind : (k : List ℕ) (xs : List (Bor (List ℕ) × ℕ)) (i : ℕ) → length xs ≤ i → (e : Bor (List ℕ) × ℕ) → slice_get xs i ≡ Some e → comes_first e.0.now k ≡ false
none_behind k xs i past e is = absurd (let within = slice_get_within xs i e is in omega (arith, past, within))

-- a name's place
pub placed_at : (k : List ℕ) (x : ℕ) (xs : List (Bor (List ℕ) × ℕ)) (i : ℕ) → i ≤ length xs → ComeFirst k xs i → ((e : Bor (List ℕ) × ℕ) → slice_get xs i ≡ Some e → comes_first e.0.now k ≡ false)
    → filed k x (indexed xs) ≡ insert (indexed xs) i (k, x)
placed_at k x [] zero le before at = refl
placed_at k x [] (suc i) le before at = absurd (omega (arith, le))
placed_at k x (e ∷ xs) zero le before at =
    ap (λ b. cond b ((e.0.now, e.1) ∷ filed k x (indexed xs)) ((k, x) ∷ ((e.0.now, e.1) ∷ indexed xs))) (at e refl)
placed_at k x (e ∷ xs) (suc i) le before at =
    ap (λ b. cond b ((e.0.now, e.1) ∷ filed k x (indexed xs)) ((k, x) ∷ ((e.0.now, e.1) ∷ indexed xs))) (before zero e (suc-le-suc zero-le) refl)
    ∙ ap (λ (es : List (List ℕ × ℕ)). (e.0.now, e.1) ∷ es) (placed_at k x xs i (omega (arith, le)) (λ j d lt is. before (suc j) d (suc-le-suc lt) is) (λ d is. at d is))

pub indexed_insert : (xs : List (Bor (List ℕ) × ℕ)) (i : ℕ) (y : Bor (List ℕ) × ℕ) → indexed (insert xs i y) ≡ insert (indexed xs) i (y.0.now, y.1)
indexed_insert [] zero y = refl
indexed_insert [] (suc i) y = refl
indexed_insert (e ∷ xs) zero y = refl
indexed_insert (e ∷ xs) (suc i) y = ap (λ (es : List (List ℕ × ℕ)). (e.0.now, e.1) ∷ es) (indexed_insert xs i y)

-- the names that are left
pub left_from : (ks : List (List ℕ)) (i : ℕ) (k : List ℕ) → slice_get ks i ≡ Some k → drop i ks ≡ k ∷ drop (suc i) ks
left_from [] i k is = absurd cc
left_from (j ∷ ks) zero k is = ap (λ (x : List ℕ). x ∷ ks) (same_Some j k is)
left_from (j ∷ ks) (suc i) k is = left_from ks i k is

pub none_left : (ks : List (List ℕ)) (i : ℕ) → slice_get ks i ≡ None → drop i ks ≡ []
none_left [] zero is = refl
none_left [] (suc i) is = refl
none_left (j ∷ ks) zero is = absurd cc
none_left (j ∷ ks) (suc i) is = none_left ks i is

-- one more name is filed
pub one_more_filed : (ks : List (List ℕ)) (i : ℕ) (k : List ℕ) (es fs : List (List ℕ × ℕ)) (all : List (List ℕ × ℕ)) → all ≡ filed_from i (drop i ks) es → slice_get ks i ≡ Some k → fs ≡ filed k i es
    → all ≡ filed_from (i + 1) (drop (i + 1) ks) fs
one_more_filed ks i k es fs all so_far is more =
    let next : suc i ≡ i + 1 = omega arith in
    subst (λ n. all ≡ filed_from n (drop n ks) fs) next (
    so_far ∙ ap (λ js. filed_from i js es) (left_from ks i k is) ∙ ap (filed_from (suc i) (drop (suc i) ks)) (sym more))

pub all_filed : (ks : List (List ℕ)) (i : ℕ) (es : List (List ℕ × ℕ)) (all : List (List ℕ × ℕ)) → all ≡ filed_from i (drop i ks) es → slice_get ks i ≡ None → es ≡ all
all_filed ks i es all so_far is = sym (so_far ∙ ap (λ js. filed_from i js es) (none_left ks i is))
