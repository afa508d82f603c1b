-- A buffer that is filled piece by piece.
use Rattle.std.proofs.Common.{◌≡◌, ℕ, ◌+◌, ◌-◌, ◌≤◌, List, ◌++◌, Option, arith, length, take, slice_range, sym, ap, ◌∙◌, subst, le_refl, drop_at, length-take-le}
use Rattle.std.specs.Io.KnownBytes.{Consumes, Keeps}
use Rattle.std.proofs.KnownBytes.{Consumes-trans, Consumes-kept}
use Rattle.std.proofs.lemmas.Slice.{take-put_mid_below}
use borrow.Rule.Slice.PartMut.{put_mid, post_of}
use lib.Seq.{take-add, take-append-le}

take_split : (a b : ℕ) (old new : List ℕ) → a ≤ b → take a new ≡ take a old → take a old ++ slice_range new a b ≡ take b new
take_split a b old new h front =
    let same : a + (b - a) ≡ b = omega arith in
    ap (λ l. l ++ slice_range new a b) (sym front) ∙ sym (take-add a (b - a) new) ∙ ap (λ n. take n new) same

slice_range-put_mid : (a k n : ℕ) (xs ys : List ℕ) → a ≤ length xs → n ≤ length ys → slice_range (put_mid a k xs ys) a (a + n) ≡ take n ys
slice_range-put_mid a k n xs ys within fits =
    let same : (a + n) - a ≡ n = omega arith in
    let after = post_of a k xs in
    ap (take ((a + n) - a)) (drop_at (take a xs) (ys ++ after) a (length-take-le a xs within)) ∙ ap (λ m. take m (ys ++ after)) same ∙ take-append-le n ys after fits

module _ (at : ℕ) (old mid new : Option (List ℕ)) (buffer read : List ℕ) (within : at ≤ length buffer) (p : Consumes old mid (take at buffer)) where
  -- a read gave so many bytes more
  pub filled_more : (n filled : ℕ) → filled ≡ at + n → n ≤ length read → Consumes mid new (take n read)
      → Consumes old new (take filled (put_mid at (length buffer - at) buffer read))
  filled_more n filled is fits q =
      let room = length buffer - at in
      let part = slice_range-put_mid at room n buffer read within fits in
      let joined = take_split at (at + n) buffer (put_mid at room buffer read) (omega arith) (take-put_mid_below _ _ _ _ _ (le_refl _) within) in
      subst (Consumes old new) (ap (λ l. take at buffer ++ l) (sym part) ∙ joined ∙ ap (λ k. take k (put_mid at room buffer read)) (sym is)) (Consumes-trans old mid new (take at buffer) (take n read) p q)

  -- a read gave none
  pub filled_same : (filled : ℕ) → filled ≡ at → Keeps mid new → Consumes old new (take filled (put_mid at (length buffer - at) buffer read))
  filled_same filled is kept =
      subst (λ n. Consumes old new (take n (put_mid at (length buffer - at) buffer read))) (sym is)
      (subst (Consumes old new) (sym (take-put_mid_below at (length buffer - at) buffer read at (le_refl at) within)) (Consumes-kept old mid new (take at buffer) p kept))
