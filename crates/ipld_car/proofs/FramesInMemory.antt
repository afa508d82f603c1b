-- A length and as many bytes at the front of bytes in memory.
use Rattle.std.proofs.Common.{◌≡◌, ℕ, zero, suc, ◌+◌, ◌-◌, ◌<◌, ◌≤◌, true, false, List, [], ◌∷◌, ◌++◌, length, take, drop, Some, Ok, Err, refl, sym, ap, subst, ◌∙◌, arith, append-nil}
use Rattle.std.proofs.lemmas.List.{take-append-drop}
use Rattle.std.specs.Io.KnownBytes.{Consumes}
use Rattle.ipld_car.specs.declared.error.CarErrorKind.TheVariants.{UnexpectedEnd}
use Rattle.ipld_car.specs.Framing.{ReadsFramed}
use Rattle.ipld_car.specs.Lengths.{ReadsLength}
use Rattle.ipld_car.specs.Taking.{Fills}
use Rattle.ipld_car.proofs.FramedReading.{framed_done, framed_cut}
use Rattle.ipld_car.proofs.LengthsInMemory.{take_len, take_all, drop_all}

-- bytes in memory, taken up to a place
pub taken_to : (bytes : List ℕ) (n : ℕ) → Consumes (Some bytes) (Some (drop n bytes)) (take n bytes)
taken_to bytes n = sym (take-append-drop n bytes)

pub take_nil : (n : ℕ) → take {A = ℕ} n [] ≡ []
take_nil zero = refl
take_nil (suc n) = refl

drop_nil : (n : ℕ) → drop {A = ℕ} n [] ≡ []
drop_nil zero = refl
drop_nil (suc n) = refl

take_on : (bytes : List ℕ) (n k m : ℕ) → m ≡ n + k → take m bytes ≡ take n bytes ++ take k (drop n bytes)
take_on bytes zero k m e = let same : m ≡ k = omega arith in ap (λ (j : ℕ). take j bytes) same
take_on [] (suc n) k m e = take_nil m ∙ sym (take_nil k)
take_on (b ∷ bytes) (suc n) k zero e = absurd (omega arith)
take_on (b ∷ bytes) (suc n) k (suc m) e = ap (λ (xs : List ℕ). b ∷ xs) (take_on bytes n k m (omega arith))

drop_on : (bytes : List ℕ) (n k m : ℕ) → m ≡ n + k → drop m bytes ≡ drop k (drop n bytes)
drop_on bytes zero k m e = let same : m ≡ k = omega arith in ap (λ (j : ℕ). drop j bytes) same
drop_on [] (suc n) k m e = drop_nil m ∙ sym (drop_nil k)
drop_on (b ∷ bytes) (suc n) k zero e = absurd (omega arith)
drop_on (b ∷ bytes) (suc n) k (suc m) e = drop_on bytes n k m (omega arith)

pub drop_len : (bytes : List ℕ) (n : ℕ) → length (drop n bytes) ≡ length bytes - n
drop_len bytes zero = omega arith
drop_len [] (suc n) = omega arith
drop_len (b ∷ bytes) (suc n) = drop_len bytes n ∙ omega arith

-- so many bytes more
fills_in : (bytes : List ℕ) (n k : ℕ) → n + k ≤ length bytes → Fills (Some (drop n bytes)) (Some (drop (n + k) bytes)) (take n bytes) (take (n + k) bytes) k (Ok true)
fills_in bytes n k fits = record {
  got = take k (drop n bytes);
  behind = take_on bytes n k (n + k) refl;
  consumed = sym (ap (λ xs. take k (drop n bytes) ++ xs) (drop_on bytes n k (n + k) refl) ∙ take-append-drop k (drop n bytes));
  outcome = take_len (drop n bytes) k (let l = drop_len bytes n in omega arith);
}

-- all of them, and they are too few
fills_short : (bytes : List ℕ) (n k : ℕ) → n ≤ length bytes → length bytes - n < k
    → Fills (Some (drop n bytes)) (Some (drop (length bytes) bytes)) (take n bytes) (take (length bytes) bytes) k (Ok false)
fills_short bytes n k few short = record {
  got = drop n bytes;
  behind = take_all bytes ∙ sym (take-append-drop n bytes);
  consumed = sym (ap (λ xs. drop n bytes ++ xs) (drop_all bytes) ∙ append-nil (drop n bytes));
  outcome = (let l = drop_len bytes n in omega arith, ap Some (drop_all bytes));
}

pub frame_done : (limit : ℕ) (bytes : List ℕ) (n k : ℕ) → ReadsLength (length bytes) (Some bytes) (Some (drop n bytes)) (take n bytes) (Ok (Some k))
    → n ≤ length bytes → 0 < k → k ≤ limit → k ≤ length bytes - n
    → ReadsFramed limit (length bytes) (Some bytes) (Some (drop (n + k) bytes)) (take (n + k) bytes) (Ok (Some n))
frame_done limit bytes n k r few some within fits =
    subst (λ m. ReadsFramed limit (length bytes) (Some bytes) (Some (drop (n + k) bytes)) (take (n + k) bytes) (Ok (Some m))) (take_len bytes n few)
    (framed_done limit (length bytes) (Some bytes) (Some (drop n bytes)) (Some (drop (n + k) bytes)) (take n bytes) (take (n + k) bytes) k k r some within refl
    (let l = take_len bytes n few in omega arith) (fills_in bytes n k (omega arith)))

pub frame_short : (limit : ℕ) (bytes : List ℕ) (n k : ℕ) → ReadsLength (length bytes) (Some bytes) (Some (drop n bytes)) (take n bytes) (Ok (Some k))
    → n ≤ length bytes → k ≤ limit → length bytes - n < k
    → ReadsFramed limit (length bytes) (Some bytes) (Some (drop (length bytes) bytes)) (take (length bytes) bytes) (Err UnexpectedEnd)
frame_short limit bytes n k r few within short =
    framed_cut limit (length bytes) (Some bytes) (Some (drop n bytes)) (Some (drop (length bytes) bytes)) (take n bytes) (take (length bytes) bytes) k k r
    (taken_to bytes n) within (omega arith) (fills_short bytes n k few short)
