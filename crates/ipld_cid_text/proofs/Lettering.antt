-- Letters and the digits that they stand for.
use Rattle.std.proofs.Common.{◌≡◌, ℕ, suc, ◌+◌, ◌<◌, ◌≤◌, inl, inr, List, [], ◌∷◌, ◌++◌, length, get_or, take, refl, sym, ap, subst, ◌∙◌, arith}
use Rattle.std.specs.Prelude.{map}
use Rattle.std.proofs.lemmas.List.{take_more, take_all, map-append, get_or-map, length_push, get_or-take}
use Rattle.ipld_cid_text.specs.declared.base.Base.{Base}
use Rattle.ipld_cid_text.specs.declared.base.Base.TheVariants.{Base16Lower, Base32Lower, Base32Upper, Base36Lower, Base58Btc, Base64Url}
use Rattle.ipld_cid_text.specs.Base.{size, letter, StandsFor, IsLetter, IsValue}
use Rattle.ipld_cid_text.specs.Digits.{IsBelow, SameNumber}
use Rattle.ipld_cid_text.specs.Encodes.{IsEncoded, AreDigits, IsFirstOther, Encodes}
use Rattle.ipld_cid_text.proofs.Places.{below-append, below-cons, one_list}
use Rattle.ipld_cid_text.proofs.Regrouping.{one_grouped}
use Rattle.ipld_cid_text.proofs.Tables.{letter-one}

pub size_pos : (base : Base) → 0 < size base
size_pos Base16Lower = omega arith
size_pos Base32Lower = omega arith
size_pos Base32Upper = omega arith
size_pos Base36Lower = omega arith
size_pos Base58Btc = omega arith
size_pos Base64Url = omega arith

pub size_small : (base : Base) → size base ≤ 64
size_small Base16Lower = omega arith
size_small Base32Lower = omega arith
size_small Base32Upper = omega arith
size_small Base36Lower = omega arith
size_small Base58Btc = omega arith
size_small Base64Url = omega arith

-- ---- letters read

pub record Stands (base : Base) (letters : List ℕ) (i : ℕ) (digits : List ℕ) : Type 0 where
  pub len : length digits ≡ i
  pub below : IsBelow (size base) digits
  pub are : take i letters ≡ map (letter base) digits

pub stands_none : (base : Base) (letters : List ℕ) → Stands base letters 0 []
stands_none base letters = record { len = refl; below = λ i. size_pos base; are = refl }

-- a value that isn't 255 is the digit
digit-is : (base : Base) (c v : ℕ) → IsValue base c v → (v ≡ 255 → ⊥) → StandsFor base c v
digit-is base c v (inl stands) other = stands
digit-is base c v (inr none) other = absurd (other none.0)

pub stands_more : (base : Base) (letters : List ℕ) (i : ℕ) (digits : List ℕ) (v : ℕ) → Stands base letters i digits → i < length letters → IsValue base (get_or letters i 0) v → (v ≡ 255 → ⊥)
    → Stands base letters (i + 1) (digits ++ v ∷ [])
stands_more base letters i digits v so_far within value other =
    let here = digit-is base (get_or letters i 0) v value other in
    record {
      len = length_push digits v ∙ ap (λ (n : ℕ). n + 1) so_far.len;
      below = below-append (size base) digits (v ∷ []) so_far.below (below-cons (size base) v [] here.below (λ k. size_pos base));
      are = take_more letters i 0 within ∙ ap (λ (ls : List ℕ). ls ++ get_or letters i 0 ∷ []) so_far.are ∙ ap (λ (l : ℕ). map (letter base) digits ++ l ∷ []) (sym here.letter_of)
          ∙ sym (map-append (letter base) digits (v ∷ []));
    }

-- a letter that stands for a digit
pub letter_at : (base : Base) (letters digits : List ℕ) (k : ℕ) → letters ≡ map (letter base) digits → IsBelow (size base) digits → k < length digits → IsLetter base (get_or letters k 0)
letter_at base letters digits k are below within = record { digit = get_or digits k 0; stands = record { below = below k; letter_of = sym (ap (λ (ls : List ℕ). get_or ls k 0) are ∙ get_or-map (letter base) digits k 0 0 within) } }

pub stands_stops : (base : Base) (letters : List ℕ) (i : ℕ) (digits : List ℕ) (v : ℕ) → Stands base letters i digits → i < length letters → IsValue base (get_or letters i 0) v → v ≡ 255
    → IsFirstOther base letters i
stands_stops base letters i digits v so_far within value none = record {
  within = within;
  other = elim value [
    | inl stands ↦ (λ l. absurd (omega (arith, stands.below, size_small base, none)))
    | inr other ↦ other.1
  ];
  before = λ k h. subst (λ (c : ℕ). IsLetter base c) (get_or-take i letters k 0 h) (letter_at base (take i letters) digits k so_far.are so_far.below (omega (arith, so_far.len, h)));
}

pub stands_all : (base : Base) (letters : List ℕ) (i : ℕ) (digits : List ℕ) → Stands base letters i digits → length letters ≤ i → AreDigits base letters digits
stands_all base letters i digits so_far end = record { below = so_far.below; letters_are = sym (take_all i letters end) ∙ so_far.are }

-- ---- one list of digits, and one of bytes

one_map : (base : Base) (xs ys : List ℕ) → IsBelow (size base) xs → IsBelow (size base) ys → map (letter base) xs ≡ map (letter base) ys → xs ≡ ys
one_map base [] [] bx by e = refl
one_map base [] (y ∷ ys) bx by e = absurd cc
one_map base (x ∷ xs) [] bx by e = absurd cc
one_map base (x ∷ xs) (y ∷ ys) bx by e =
    let here : x ≡ y = letter-one base x y (bx 0) (by 0) cc in
    let more : xs ≡ ys = one_map base xs ys (λ i. bx (suc i)) (λ i. by (suc i)) cc in
    ap (λ (k : ℕ). k ∷ xs) here ∙ ap (λ (l : List ℕ). y ∷ l) more

-- digits that encode are digits of the base
pub encoded_below : (base : Base) (bytes digits : List ℕ) → IsEncoded base bytes digits → IsBelow (size base) digits
encoded_below Base16Lower bytes digits e = e.below
encoded_below Base32Lower bytes digits e = e.below
encoded_below Base32Upper bytes digits e = e.below
encoded_below Base36Lower bytes digits e = e.others_below
encoded_below Base58Btc bytes digits e = e.others_below
encoded_below Base64Url bytes digits e = e.below

-- digits encode one list of bytes
one_number : (base : ℕ) (xs ys digits : List ℕ) → SameNumber 256 xs base digits → SameNumber 256 ys base digits → xs ≡ ys
one_number base xs ys digits a b = one_list 256 xs ys (omega arith) a.below b.below (sym a.number ∙ b.number) (sym a.zeros ∙ b.zeros)

pub one_encoded : (base : Base) (xs ys digits : List ℕ) → IsEncoded base xs digits → IsEncoded base ys digits → xs ≡ ys
one_encoded Base16Lower xs ys digits a b = one_grouped 4 xs ys digits (omega arith) a b
one_encoded Base32Lower xs ys digits a b = one_grouped 5 xs ys digits (omega arith) a b
one_encoded Base32Upper xs ys digits a b = one_grouped 5 xs ys digits (omega arith) a b
one_encoded Base36Lower xs ys digits a b = one_number 36 xs ys digits a b
one_encoded Base58Btc xs ys digits a b = one_number 58 xs ys digits a b
one_encoded Base64Url xs ys digits a b = one_grouped 6 xs ys digits (omega arith) a b

pub one_digits : (base : Base) (letters digits : List ℕ) → AreDigits base letters digits → (bytes : List ℕ) (e : Encodes base bytes letters) → e.digits ≡ digits
one_digits base letters digits are bytes e =
    one_map base e.digits digits (encoded_below base bytes e.digits e.encoded) are.below (sym e.letters_are ∙ are.letters_are)

-- letters encode one list of bytes
pub one_bytes : (base : Base) (xs ys letters : List ℕ) → Encodes base xs letters → Encodes base ys letters → xs ≡ ys
one_bytes base xs ys letters a b =
    let same : a.digits ≡ b.digits = one_digits base letters b.digits (record { below = encoded_below base ys b.digits b.encoded; letters_are = b.letters_are }) xs a in
    one_encoded base xs ys b.digits (subst (λ (ds : List ℕ). IsEncoded base xs ds) same a.encoded) b.encoded
