-- Entries whose keys ascend, sorted by the length of their keys.
use Rattle.std.proofs.Common.{◌≡◌, ℕ, zero, suc, ◌<◌, ◌≤◌, Bool, true, false, cond, List, [], ◌∷◌, length, map, get_or, filter, nat_cmp, is_lt, refl, sym, ap, ◌∙◌, arith, inl, inr, suc-le-suc, zero-le}
use Rattle.std.specs.Prelude.{if◌then◌else◌}
use Rattle.std.proofs.lemmas.Bool.{cond-true, cond-false, cases_Bool}
use Rattle.std.proofs.lemmas.Bool.Decides.{nat_tests}
use Rattle.std.specs.List.Sorted.{ties, IsNonDecreasingBy, IsStableByKey}
use Rattle.dag_cbor_format.proofs.KeyOrder.{first_le, later_le, shorter}
use Rattle.dag_cbor_format.specs.Canonical.{is_before, goes_first, placed}

-- ---- sorting

module _ {X : Type 0} (key : X → List ℕ) where
  abbrev pub size : X → ℕ
  size x = length (key x)

  abbrev pub put_at : X → List X → List X
  put_at x [] = x ∷ []
  put_at x (e ∷ es) = if goes_first (key e) (key x) then e ∷ put_at x es else x ∷ (e ∷ es)

  abbrev pub sorted : List X → List X
  sorted [] = []
  sorted (x ∷ xs) = put_at x (sorted xs)

  -- a key before all of them
  abbrev pub IsBelow : List ℕ → List X → Type 0
  IsBelow k [] = Unit {0}
  IsBelow k (e ∷ es) = (is_before k (key e) ≡ true) × IsBelow k es

  abbrev pub AreAscending : List X → Type 0
  AreAscending [] = Unit {0}
  AreAscending (x ∷ xs) = IsBelow (key x) xs × AreAscending xs

  abbrev pub alike : X → X → Bool
  alike = ties (λ x y. is_lt (nat_cmp (size x) (size y)))

  ties_at : (m n : ℕ) → (ties (λ x y. is_lt (nat_cmp x y)) m n ≡ true → m ≡ n) × (m ≡ n → ties (λ x y. is_lt (nat_cmp x y)) m n ≡ true)
  ties_at m n = (λ h. grind (arith, nat_tests), λ h. grind (arith, nat_tests))

  alike-true : (x y : X) → alike x y ≡ true → size x ≡ size y
  alike-true x y = (ties_at (size x) (size y)).0

  alike_from : (x y : X) → size x ≡ size y → alike x y ≡ true
  alike_from x y = (ties_at (size x) (size y)).1

  kept : (p : X → Bool) (y : X) (ys : List X) → p y ≡ true → filter p (y ∷ ys) ≡ y ∷ filter p ys
  kept p y ys h = cond-true _ _ _ h

  dropped : (p : X → Bool) (y : X) (ys : List X) → p y ≡ false → filter p (y ∷ ys) ≡ filter p ys
  dropped p y ys h = cond-false _ _ _ h

  -- ---- one more is put before those of its length

  put_first : (x e : X) (es : List X) → goes_first (key e) (key x) ≡ true → put_at x (e ∷ es) ≡ e ∷ put_at x es
  put_first x e es h = rw h

  put_here : (x e : X) (es : List X) → goes_first (key e) (key x) ≡ false → put_at x (e ∷ es) ≡ x ∷ (e ∷ es)
  put_here x e es h = rw h

  alike_put : (z x : X) (es : List X) → IsBelow (key x) es → filter (alike z) (put_at x es) ≡ filter (alike z) (x ∷ es)
  alike_put z x [] below = refl
  alike_put z x (e ∷ es) below =
      let p = alike z in
      elim (cases_Bool (goes_first (key e) (key x))) [
        | inr here ↦ ap (filter p) (put_here x e es here)
        | inl first ↦
            let short = shorter (key e) (key x) first below.0 in
            ap (filter p) (put_first x e es first)
            ∙ elim (cases_Bool (p e)) [
              | inr without ↦
                  dropped p e (put_at x es) without ∙ alike_put z x es below.1
                  ∙ ap (λ l. cond (p x) (x ∷ l) l) (sym (dropped p e es without))
              | inl with ↦
                  elim (cases_Bool (p x)) [
                    | inl both ↦ absurd (omega (arith, short, alike-true z x both, alike-true z e with))
                    | inr only ↦
                        kept p e (put_at x es) with ∙ ap (λ l. e ∷ l) (alike_put z x es below.1 ∙ dropped p x es only)
                        ∙ sym (dropped p x (e ∷ es) only ∙ kept p e es with)
                  ]
            ]
      ]

  below_put : (k : List ℕ) (x : X) (es : List X) → is_before k (key x) ≡ true → IsBelow k es → IsBelow k (put_at x es)
  below_put k x [] h below = (h, tt)
  below_put k x (e ∷ es) h below =
      elim (cases_Bool (goes_first (key e) (key x))) [
        | inr here ↦ rw (put_here x e es here) (h, below)
        | inl first ↦ rw (put_first x e es first) (below.0, below_put k x es h below.1)
      ]

  below_sorted : (k : List ℕ) (es : List X) → IsBelow k es → IsBelow k (sorted es)
  below_sorted k [] below = tt
  below_sorted k (e ∷ es) below = below_put k e (sorted es) below.0 (below_sorted k es below.1)

  alike_sorted : (z : X) (xs : List X) → AreAscending xs → filter (alike z) (sorted xs) ≡ filter (alike z) xs
  alike_sorted z [] h = refl
  alike_sorted z (x ∷ xs) h =
      alike_put z x (sorted xs) (below_sorted (key x) xs h.0)
      ∙ ap (λ l. cond (alike z x) (x ∷ l) l) (alike_sorted z xs h.1)

  -- ---- lengths that rise

  abbrev AreAtLeast : ℕ → List X → Type 0
  AreAtLeast n [] = Unit {0}
  AreAtLeast n (y ∷ ys) = (n ≤ size y) × AreAtLeast n ys

  abbrev Rises : List X → Type 0
  Rises [] = Unit {0}
  Rises (y ∷ ys) = AreAtLeast (size y) ys × Rises ys

  at_least : (n m : ℕ) (ys : List X) → n ≤ m → AreAtLeast m ys → AreAtLeast n ys
  at_least n m [] le h = tt
  at_least n m (y ∷ ys) le h = let first = h.0 in (omega arith, at_least n m ys le h.1)

  at_least_put : (n : ℕ) (x : X) (es : List X) → n ≤ size x → AreAtLeast n es → AreAtLeast n (put_at x es)
  at_least_put n x [] le h = (le, tt)
  at_least_put n x (e ∷ es) le h =
      elim (cases_Bool (goes_first (key e) (key x))) [
        | inr here ↦ rw (put_here x e es here) (le, h)
        | inl first ↦ rw (put_first x e es first) (h.0, at_least_put n x es le h.1)
      ]

  rises_put : (x : X) (es : List X) → Rises es → Rises (put_at x es)
  rises_put x [] h = (tt, tt)
  rises_put x (e ∷ es) h =
      elim (cases_Bool (goes_first (key e) (key x))) [
        | inr here ↦
            let le = later_le (key e) (key x) here in
            rw (put_here x e es here) ((le, at_least (size x) (size e) es le h.0), h)
        | inl first ↦
            rw (put_first x e es first) (at_least_put (size e) x es (first_le (key e) (key x) first) h.0, rises_put x es h.1)
      ]

  rises_sorted : (xs : List X) → Rises (sorted xs)
  rises_sorted [] = tt
  rises_sorted (x ∷ xs) = rises_put x (sorted xs) (rises_sorted xs)

  at_least_from : (n : ℕ) (d : X) (ys : List X) → ((j : ℕ) → j < length ys → n ≤ size (get_or ys j d)) → AreAtLeast n ys
  at_least_from n d [] h = tt
  at_least_from n d (y ∷ ys) h = (h zero (suc-le-suc zero-le), at_least_from n d ys (λ j lt. h (suc j) (suc-le-suc lt)))

  rises_from : (ys : List X) → IsNonDecreasingBy size ys → Rises ys
  rises_from [] h = tt
  rises_from (y ∷ ys) h = (
    at_least_from (size y) y ys (λ j lt. h zero (suc j) y zero-le (suc-le-suc lt)),
    rises_from ys (λ i j d le lt. h (suc i) (suc j) d (suc-le-suc le) (suc-le-suc lt)),
  )

  -- ---- lengths that rise, with the same entries of each length

  found_among : (n : ℕ) (x : X) (ys : List X) (w : X) (ws : List X) → AreAtLeast n ys → filter (alike x) ys ≡ w ∷ ws → n ≤ size x
  found_among n x [] w ws h e = absurd cc
  found_among n x (y ∷ ys) w ws h e =
      elim (cases_Bool (alike x y)) [
        | inl with ↦ omega (arith, h.0, alike-true x y with)
        | inr without ↦ found_among n x ys w ws h.1 (sym (dropped (alike x) y ys without) ∙ e)
      ]

  same_lists : (ys zs : List X) → Rises ys → Rises zs → ((x : X) → filter (alike x) ys ≡ filter (alike x) zs) → ys ≡ zs
  same_lists [] [] left right same = refl
  same_lists [] (z ∷ zs) left right same =
      absurd (let clash : [] ≡ z ∷ filter (alike z) zs = same z ∙ kept (alike z) z zs (alike_from z z refl) in cc)
  same_lists (y ∷ ys) [] left right same =
      absurd (let clash : [] ≡ y ∷ filter (alike y) ys = sym (same y) ∙ kept (alike y) y ys (alike_from y y refl) in cc)
  same_lists (y ∷ ys) (z ∷ zs) left right same =
      let at_y = kept (alike y) y ys (alike_from y y refl) in
      let at_z = kept (alike z) z zs (alike_from z z refl) in
      let up = found_among (size z) y (z ∷ zs) y _ (omega arith, right.0) (sym (same y) ∙ at_y) in
      let down = found_among (size y) z (y ∷ ys) z _ (omega arith, left.0) (same z ∙ at_z) in
      let heads : y ∷ filter (alike y) ys ≡ z ∷ filter (alike y) zs = sym at_y ∙ same y ∙ kept (alike y) z zs (alike_from y z (omega arith)) in
      let head : y ≡ z = cc in
      let tails : (x : X) → filter (alike x) ys ≡ filter (alike x) zs =
      λ x. elim (cases_Bool (alike x y)) [
        | inl with ↦
            let both : y ∷ filter (alike x) ys ≡ z ∷ filter (alike x) zs =
            sym (kept (alike x) y ys with) ∙ same x ∙ kept (alike x) z zs (ap (alike x) (sym head) ∙ with) in cc
        | inr without ↦
            sym (dropped (alike x) y ys without) ∙ same x ∙ dropped (alike x) z zs (ap (alike x) (sym head) ∙ without)
      ] in
      ap (λ w. w ∷ ys) head ∙ ap (λ l. z ∷ l) (same_lists ys zs left.1 right.1 tails)

  pub sorted_by_length : (xs ys : List X) → AreAscending xs → IsNonDecreasingBy size ys → IsStableByKey size nat_cmp xs ys → ys ≡ sorted xs
  sorted_by_length xs ys ascending rises stable =
      same_lists ys (sorted xs) (rises_from ys rises) (rises_sorted xs) (λ x. stable x ∙ sym (alike_sorted x xs ascending))

-- ---- entries as pairs of a key and a value

module _ {X V : Type 0} (f : X → List ℕ × V) where
  placed_choice : (b : Bool) (x y : List X) → map f (if b then x else y) ≡ (if b then map f x else map f y)
  placed_choice true x y = refl
  placed_choice false x y = refl

  pub map_put : (x : X) (es : List X) → map f (put_at (λ e. (f e).0) x es) ≡ placed (f x).0 (f x).1 (map f es)
  map_put x [] = refl
  map_put x (e ∷ es) =
      placed_choice (goes_first (f e).0 (f x).0) (e ∷ put_at (λ a. (f a).0) x es) (x ∷ (e ∷ es))
      ∙ ap (λ l. if goes_first (f e).0 (f x).0 then f e ∷ l else f x ∷ (f e ∷ map f es)) (map_put x es)
