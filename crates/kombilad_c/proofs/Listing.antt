-- A buffer that is filled from its beginning, one record after another.
use Rattle.std.proofs.Common.{◌≡◌, ℕ, zero, suc, ◌+◌, ◌≤◌, ◌<◌, List, [], ◌∷◌, ◌++◌, length, take, drop, get_or, refl, sym, ap, ◌∙◌, arith, add-one}
use Rattle.std.specs.Prelude.{map, slice_set}

-- so many records are written
abbrev pub filled : {A B : Type 0} → (A → B) → ℕ → List A → List B → List B
filled f n xs buffer = map f (take n xs) ++ drop n buffer

-- one more
filled-suc : {A B : Type 0} (f : A → B) (n : ℕ) (xs : List A) (buffer : List B) (d : A) → suc n ≤ length xs → suc n ≤ length buffer
    → slice_set (filled f n xs buffer) n (f (get_or xs n d)) ≡ filled f (suc n) xs buffer
filled-suc f n [] buffer d h k = absurd (omega arith)
filled-suc f n (x ∷ xs) [] d h k = absurd (omega arith)
filled-suc f zero (x ∷ xs) (b ∷ buffer) d h k = refl
filled-suc f (suc n) (x ∷ xs) (b ∷ buffer) d h k = ap (λ bs. f x ∷ bs) (filled-suc f n xs buffer d (omega arith) (omega arith))

pub filled_next : {A B : Type 0} (f : A → B) (n : ℕ) (xs : List A) (start now : List B) (x : A) (v : B) → now ≡ filled f n xs start → x ≡ get_or xs n x → v ≡ f x
    → n < length xs → length xs ≤ length now → length now ≡ length start → slice_set now n v ≡ filled f (n + 1) xs start
filled_next f n xs start now x v so_far at is h few same =
    ap (λ b. slice_set b n v) so_far
    ∙ ap (slice_set (filled f n xs start) n) (is ∙ ap f at)
    ∙ filled-suc f n xs start x h (omega arith)
    ∙ ap (λ (k : ℕ). filled f k xs start) (sym (add-one n))

-- the same of an element that is read in place
pub filled_after : {A B : Type 0} (f : A → B) (n : ℕ) (xs : List A) (start now : List B) (d : A) (v : B) → now ≡ filled f n xs start → v ≡ f (get_or xs n d)
    → n < length xs → length xs ≤ length now → length now ≡ length start → slice_set now n v ≡ filled f (n + 1) xs start
filled_after f n xs start now d v so_far is h few same =
    ap (λ b. slice_set b n v) so_far
    ∙ ap (slice_set (filled f n xs start) n) is
    ∙ filled-suc f n xs start d h (omega arith)
    ∙ ap (λ (k : ℕ). filled f k xs start) (sym (add-one n))
