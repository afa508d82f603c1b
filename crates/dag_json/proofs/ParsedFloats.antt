-- A float that a text is read as has its format.
use Rattle.std.proofs.Common.{◌≡◌, ◌+◌, ℕ, Bool, List, length, drop, Option, Some, None, option_map, option_and_then, inl, inr, refl, sym, ap, subst, ◌∙◌, T}
use Rattle.std.specs.Prelude.{◌==◌, if◌then◌else◌, codes}
use Rattle.std.specs.Float.{Float}
use Rattle.std.specs.Float.Ieee.{Format, fits, inf, nan}
use Rattle.std.specs.Float.Numeral.{scan_numeral, has_digits, nearest_float}
use Rattle.std.specs.Float.Parse.{parse_float, read_float, read_unsigned, read_word, begins_with, sign_len}
use Rattle.std.proofs.lemmas.Bool.{cases_Bool}
use lib.Ieee.Fits.{round-fits}

kept : (f : Format) (o : Option (Float × ℕ)) (n k : ℕ) (x : Float) → ((r : Float × ℕ) → o ≡ Some r → T (fits f r.0))
    → option_and_then (λ (r : Float × ℕ). if r.1 == n then Some r.0 else None) (option_map (λ (r : Float × ℕ). (r.0, k + r.1)) o) ≡ Some x → T (fits f x)
kept f None n k x h e = absurd cc
kept f (Some r) n k x h e = elim (cases_Bool (k + r.1 == n)) [
  | inl same ↦
      let found : ◌≡◌ {A = Option Float} (Some r.0) (Some x) = sym (ap (λ b. if b then Some r.0 else None) same) ∙ e in
      let is : r.0 ≡ x = cc in
      subst (λ y. T (fits f y)) is (h r refl)
  | inr other ↦
      let none : ◌≡◌ {A = Option Float} None (Some x) = sym (ap (λ b. if b then Some r.0 else None) other) ∙ e in
      absurd cc
]

word_fits : (f : Format) (negative : Bool) (bs : List ℕ) (r : Float × ℕ) → read_word negative bs ≡ Some r → T (fits f r.0)
unfolding fits
word_fits f negative bs r e =
    elim (cases_Bool (begins_with bs (codes "infinity"))) [
      | inl a ↦ let is : ◌≡◌ {A = Option (Float × ℕ)} (Some (inf negative, 8)) (Some r) = rw a at e in subst (λ (p : Float × ℕ). T (fits f p.0)) (let p : (inf negative, 8) ≡ r = cc in p) tt
      | inr a ↦ elim (cases_Bool (begins_with bs (codes "inf"))) [
        | inl b ↦ let is : ◌≡◌ {A = Option (Float × ℕ)} (Some (inf negative, 3)) (Some r) = rw (a, b) at e in subst (λ (p : Float × ℕ). T (fits f p.0)) (let p : (inf negative, 3) ≡ r = cc in p) tt
        | inr b ↦ elim (cases_Bool (begins_with bs (codes "nan"))) [
          | inl c ↦ let is : ◌≡◌ {A = Option (Float × ℕ)} (Some (nan, 3)) (Some r) = rw (a, b, c) at e in subst (λ (p : Float × ℕ). T (fits f p.0)) (let p : (nan, 3) ≡ r = cc in p) tt
          | inr c ↦ let none : ◌≡◌ {A = Option (Float × ℕ)} None (Some r) = rw (a, b, c) at e in absurd cc
        ]
      ]
    ]

unsigned_fits : (f : Format) (negative : Bool) (bs : List ℕ) (r : Float × ℕ) → read_unsigned f negative bs ≡ Some r → T (fits f r.0)
unsigned_fits f negative bs r e = elim (cases_Bool (has_digits (scan_numeral bs))) [
  | inl some ↦
      let is : ◌≡◌ {A = Option (Float × ℕ)} (Some (nearest_float f negative (scan_numeral bs), (scan_numeral bs).len)) (Some r) =
      sym (ap (λ b. if b then Some (nearest_float f negative (scan_numeral bs), (scan_numeral bs).len) else read_word negative bs) some) ∙ e in
      let same : (nearest_float f negative (scan_numeral bs), (scan_numeral bs).len) ≡ r = cc in
      subst (λ (p : Float × ℕ). T (fits f p.0)) same (round-fits f negative _ _)
  | inr none ↦
      word_fits f negative bs r (sym (ap (λ b. if b then Some (nearest_float f negative (scan_numeral bs), (scan_numeral bs).len) else read_word negative bs) none) ∙ e)
]

pub parsed_fits : (f : Format) (bs : List ℕ) (x : Float) → parse_float f bs ≡ Some x → T (fits f x)
unfolding read_float
parsed_fits f bs x e = kept f (read_unsigned f _ (drop (sign_len bs) bs)) (length bs) (sign_len bs) x (λ r is. unsigned_fits f _ (drop (sign_len bs) bs) r is) e
