-- The last of the entries of an index, grown.
use Rattle.std.proofs.Common.{◌≡◌, ◌≢◌, ℕ, map, refl, zero, suc, List, [], ◌∷◌, ◌++◌, length, None, Some, slice_get, slice_set, Result, Ok, Err, OnOk, sym, ap, subst, ◌<◌, ◌∙◌, append_assoc, append-nil, arith}
use Rattle.std.specs.List.{All, flat_map}
use Rattle.std.proofs.lemmas.List.{length-append}
use Rattle.std.proofs.lemmas.List.Elements.{All-nil, All-cons, All-head, All-tail, All-append, All-set}
use Rattle.ipld_car.specs.IndexGrouping.{AreApart, IsSplitHash}
use Rattle.ipld_car.specs.declared.index.Bucket.{Bucket}
use Rattle.ipld_car.specs.declared.index.HashBuckets.{HashBuckets}

same_item : {X : Type 0} (a x : X) → Some a ≡ Some x → a ≡ x
same_item a x e = cc

-- what the last of several things holds grew, and so what they all hold
pub set_last : {X A : Type 0} (f : X → List A) (xs : List X) (n : ℕ) (x y : X) (grown : List A) → length xs ≡ suc n → slice_get xs n ≡ Some x → f y ≡ f x ++ grown
    → flat_map f (slice_set xs n y) ≡ flat_map f xs ++ grown
set_last f [] n x y grown len is h = absurd (omega arith)
set_last f (a ∷ []) zero x y grown len is h =
    append-nil (f y) ∙ h ∙ ap (λ l. l ++ grown) (ap f (sym (same_item a x is)) ∙ sym (append-nil (f a)))
set_last f (a ∷ []) (suc n) x y grown len is h = absurd (omega arith)
set_last f (a ∷ b ∷ xs) zero x y grown len is h = absurd (omega arith)
set_last f (a ∷ b ∷ xs) (suc n) x y grown len is h =
    ap (λ l. f a ++ l) (set_last f (b ∷ xs) n x y grown (omega arith) is h) ∙ sym (append_assoc (f a) (flat_map f (b ∷ xs)) grown)

-- the last of several things was replaced by one of the same key
pub keys_set : {X : Type 0} (key : X → ℕ) (xs : List X) (n : ℕ) (x y : X) → length xs ≡ suc n → slice_get xs n ≡ Some x → key y ≡ key x
    → map key (slice_set xs n y) ≡ map key xs
keys_set key [] n x y len is same = absurd (omega arith)
keys_set key (a ∷ []) zero x y len is same = ap (λ (k : ℕ). k ∷ []) (same ∙ ap key (sym (same_item a x is)))
keys_set key (a ∷ []) (suc n) x y len is same = absurd (omega arith)
keys_set key (a ∷ b ∷ xs) zero x y len is same = absurd (omega arith)
keys_set key (a ∷ b ∷ xs) (suc n) x y len is same = ap (λ (ks : List ℕ). key a ∷ ks) (keys_set key (b ∷ xs) n x y (omega arith) is same)

-- a thing of another key than the last was put behind the others
pub apart_push : {X : Type 0} (key : X → ℕ) (xs : List X) (n : ℕ) (y : X) → length xs ≡ suc n → AreApart (map key xs)
    → ((x : X) → slice_get xs n ≡ Some x → key x ≢ key y) → AreApart (map key (xs ++ y ∷ []))
apart_push key [] n y len p h = absurd (omega arith)
apart_push key (a ∷ []) zero y len p h = (h a refl, tt)
apart_push key (a ∷ []) (suc n) y len p h = absurd (omega arith)
apart_push key (a ∷ b ∷ xs) zero y len p h = absurd (omega arith)
apart_push key (a ∷ b ∷ xs) (suc n) y len p h = (p.0, apart_push key (b ∷ xs) n y (omega arith) p.1 h)

-- an item was put where it is
pub same_set : {X : Type 0} (xs : List X) (n : ℕ) (x : X) → slice_get xs n ≡ Some x → slice_set xs n x ≡ xs
same_set [] n x is = refl
same_set (a ∷ xs) zero x is = ap (λ y. y ∷ xs) (sym (same_item a x is))
same_set (a ∷ xs) (suc n) x is = ap (λ l. a ∷ l) (same_set xs n x is)

-- things of which none has the key of the next, and of each of which this is true
abbrev pub Split : {X : Type 0} → (X → ℕ) → (X → Type 0) → List X → Type 0
Split key P xs = AreApart (map key xs) × All P xs

only : {X : Type 0} (P : X → Type 0) (y : X) → P y → All P (y ∷ [])
only P y p = All-cons P y [] p (λ k d low. absurd (omega arith))

pub split_set : {X : Type 0} (key : X → ℕ) (P : X → Type 0) (xs : List X) (n : ℕ) (x y : X) → length xs ≡ suc n → slice_get xs n ≡ Some x → key y ≡ key x → P y
    → Split key P xs → Split key P (slice_set xs n y)
split_set key P xs n x y len is same p s = (subst AreApart (sym (keys_set key xs n x y len is same)) s.0, All-set P xs n y p s.1)

pub split_push : {X : Type 0} (key : X → ℕ) (P : X → Type 0) (xs : List X) (n : ℕ) (x y : X) → length xs ≡ suc n → slice_get xs n ≡ Some x → key x ≢ key y → P y
    → Split key P xs → Split key P (xs ++ y ∷ [])
split_push key P xs n x y len is other p s = (
  apart_push key xs n y len s.0 (λ z e. let same = same_item z x (sym e ∙ is) in λ k. other (ap key (sym same) ∙ k)),
  All-append P xs (y ∷ []) s.1 (only P y p),
)

pub split_first : {X : Type 0} (key : X → ℕ) (P : X → Type 0) (xs : List X) (y : X) → length xs ≡ 0 → P y → Split key P (xs ++ y ∷ [])
split_first key P [] y e p = (tt, only P y p)
split_first key P (x ∷ xs) y e p = absurd (omega arith)

-- what is true of all is of the one at the place
pub all_get : {X : Type 0} (P : X → Type 0) (xs : List X) (n : ℕ) (x : X) → slice_get xs n ≡ Some x → All P xs → P x
all_get P [] n x is a = absurd (let no : None ≡ Some x = is in cc)
all_get P (y ∷ xs) zero x is a = subst P (same_item y x is) (All-head P y xs a)
all_get P (y ∷ xs) (suc n) x is a = all_get P xs n x is (All-tail P y xs a)

-- a hash function without entries
pub no_lengths : (hash : HashBuckets) → hash.buckets.items ≡ [] → IsSplitHash hash
no_lengths hash none = record {
  apart = rw none tt;
  some = rw none (All-nil (λ (b : Bucket). 0 < length b.entries.items));
}

-- a list with an item more has some
pub pushed_some : {X : Type 0} (xs ys : List X) (y : X) → xs ≡ ys ++ y ∷ [] → 0 < length xs
pushed_some xs ys y e = rw e (let l = length-append ys (y ∷ []) in omega arith)

pub map2_ok : {T E P Q R : Type 0} (r : Result T E) → (P → Q → R) → OnOk r P → OnOk r Q → OnOk r R
map2_ok (Ok x) f p q = f p q
map2_ok (Err e) f p q = tt

pub map_ok : {T E P Q : Type 0} (r : Result T E) → (P → Q) → OnOk r P → OnOk r Q
map_ok (Ok x) f h = f h
map_ok (Err e) f h = tt
