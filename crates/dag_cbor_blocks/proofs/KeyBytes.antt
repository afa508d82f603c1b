-- Bytes whose order is told one by one, or by eight that are alike.
use Rattle.std.proofs.Common.{◌≡◌, ℕ, zero, suc, ◌+◌, ◌<◌, ◌≤◌, List, [], ◌∷◌, ◌++◌, length, take, drop, get_or, refl, sym, ap, subst, ◌∙◌, arith, w8, w64, Fits}
use Rattle.std.specs.Int.{from_be_bytes, to_be_bytes}
use Rattle.std.specs.Ordering.{nat_cmp, ordering_then, is_lt}
use Rattle.std.specs.declared.cmp.Ordering.TheVariants.{Equal}
use Rattle.std.specs.Cmp.{nat_cmp_is}
use Rattle.std.specs.Cmp.Lexicographic.{slice_cmp}
use Rattle.std.proofs.lemmas.List.{take-append-drop, length-take-le, get_or-drop}
use Rattle.std.proofs.lemmas.Nat.{be_bytes_8}
use Rattle.dag_cbor_format.specs.Canonical.{is_before}

abbrev pub Bytes : List ℕ → Type 0
Bytes xs = (i : ℕ) → Fits w8 (get_or xs i 0)

front : (n : ℕ) (xs : List ℕ) → Bytes xs → (i : ℕ) → get_or (take n xs) i 0 < 256
front zero xs h i = omega arith
front (suc n) [] h i = (h i).fits
front (suc n) (x ∷ xs) h zero = (h 0).fits
front (suc n) (x ∷ xs) h (suc i) = front n xs (λ k. h (suc k)) i

pub behind : (xs rest : List ℕ) → rest ≡ drop 8 xs → Bytes xs → Bytes rest
behind xs rest e h i = subst (λ ys. Fits w8 (get_or ys i 0)) (sym e) (subst (Fits w8) (sym (get_or-drop 8 xs i 0)) (h (8 + i)))

-- what both begin with decides nothing
alike : (zs xs ys : List ℕ) → is_before (zs ++ xs) (zs ++ ys) ≡ is_before xs ys
alike [] xs ys = refl
alike (z ∷ zs) xs ys = ap (λ r. is_lt (ordering_then r (slice_cmp nat_cmp (zs ++ xs) (zs ++ ys)))) (sym (nat_cmp_is z z Equal refl)) ∙ alike zs xs ys

pub skipped : (xs ys fs gs us vs : List ℕ) → Bytes xs → Bytes ys → 8 ≤ length xs → 8 ≤ length ys → fs ≡ take 8 xs → gs ≡ take 8 ys → us ≡ drop 8 xs → vs ≡ drop 8 ys
    → from_be_bytes w64 fs ≡ from_be_bytes w64 gs → is_before xs ys ≡ is_before us vs
skipped xs ys fs gs us vs h g p q f_is g_is u_is v_is e =
    let equal : from_be_bytes w64 (take 8 xs) ≡ from_be_bytes w64 (take 8 ys) = ap (from_be_bytes w64) (sym f_is) ∙ e ∙ ap (from_be_bytes w64) g_is in
    let same : take 8 xs ≡ take 8 ys = sym (be_bytes_8 (take 8 xs) _ (length-take-le 8 xs p) (front 8 xs h) refl) ∙ ap (to_be_bytes w64) equal ∙ be_bytes_8 (take 8 ys) _ (length-take-le 8 ys q) (front 8 ys g) refl in
    (λ i. is_before (sym (take-append-drop 8 xs) i) (sym (take-append-drop 8 ys) i)) ∙ ap (λ zs. is_before (zs ++ drop 8 xs) (take 8 ys ++ drop 8 ys)) same
    ∙ alike (take 8 ys) (drop 8 xs) (drop 8 ys) ∙ (λ i. is_before (sym u_is i) (sym v_is i))
