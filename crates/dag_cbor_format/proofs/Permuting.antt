-- Permuted lists of what comes of other lists.
use Rattle.std.proofs.Common.{◌≡◌, ℕ, ◌<◌, List, [], ◌∷◌, length, map, get_or, refl, sym, ap, ◌∙◌, arith}
use Rattle.std.specs.List.{swap}
use Rattle.std.specs.List.Sorted.{IsPermutation}
use Rattle.std.specs.Prelude.{slice_set}
use Rattle.std.proofs.Math.Seq.{map-set}
use Rattle.std.proofs.Math.ListN.{get_or-map}
use Rattle.std.proofs.lemmas.List.{length-map}
use Rattle.std.proofs.lemmas.List.Sorted.{IsPermutation-refl, IsPermutation-trans, IsPermutation-swap, IsPermutation-keeps}

module _ {X Y : Type 0} (f : X → Y) where
  swapped : (l : List X) (i j : ℕ) → map f (swap l i j) ≡ swap (map f l) i j
  swapped [] i j = refl
  swapped (d ∷ ys) i j =
      let l = d ∷ ys in
      map-set f (slice_set l i (get_or l j d)) j (get_or l i d)
      ∙ ap (λ (m : List Y). slice_set m j (f (get_or l i d))) (map-set f l i (get_or l j d))
      ∙ ap (λ (x : Y). slice_set (slice_set (map f l) i x) j (f (get_or l i d))) (sym (get_or-map f l j d))
      ∙ ap (λ (y : Y). slice_set (slice_set (map f l) i (get_or (map f l) j (f d))) j y) (sym (get_or-map f l i d))

  -- a list of the same elements, of which a permuted list comes
  pub record Lifted (xs : List X) (ys : List Y) : Type 0 where
    pub list : List X
    pub same : IsPermutation xs list
    pub is : ys ≡ map f list

  lifted_more : (xs : List X) (l : List Y) (i j : ℕ) → i < length l → j < length l → Lifted xs l → Lifted xs (swap l i j)
  lifted_more xs l i j p q h =
      let zs = h.list in
      let long : length l ≡ length zs = ap length h.is ∙ length-map zs f in
      record {
        list = swap zs i j;
        same = IsPermutation-trans xs zs (swap zs i j) h.same (IsPermutation-swap zs (swap zs i j) i j (omega arith) (omega arith) refl);
        is = ap (λ (m : List Y). swap m i j) h.is ∙ sym (swapped zs i j);
      }

  pub lifted : (xs : List X) (ys : List Y) → IsPermutation (map f xs) ys → Lifted xs ys
  lifted xs ys s =
      IsPermutation-keeps (map f xs) (Lifted xs) (record { list = xs; same = IsPermutation-refl xs; is = refl }) (lifted_more xs) ys s
