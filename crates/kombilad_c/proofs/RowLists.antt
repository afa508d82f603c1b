-- Rows that stand for elements, one after the other.
use Rattle.std.proofs.Common.{◌≡◌, ℕ, ◌+◌, ◌<◌, List, [], ◌∷◌, ◌++◌, length, map, take, drop, get_or, refl, sym, ap, subst, ◌∙◌, arith}
use Rattle.std.proofs.lemmas.List.{take_more, drop_more, map-append, take-append-drop, length-take-le}
use Rattle.kombilad_c.specs.Rows.{AreEach, FirstFault}

each_more : {A B : Type 0} (Is : A → B → Type 0) (xs : List A) (ys : List B) (x : A) (y : B) → AreEach Is xs ys → Is x y → AreEach Is (xs ++ x ∷ []) (ys ++ y ∷ [])
each_more Is [] [] x y are is = (is, refl)
each_more Is [] (z ∷ ys) x y are is = absurd cc
each_more Is (w ∷ xs) [] x y are is = absurd are
each_more Is (w ∷ xs) (z ∷ ys) x y are is = (are.0, each_more Is xs ys x y are.1 is)

-- the rows up to the next one
each_next : {A B : Type 0} (Is : A → B → Type 0) (rows : List A) (elements : List B) (i : ℕ) (other : A) (element : B) → i < length rows
    → AreEach Is (take i rows) elements → Is (get_or rows i other) element → AreEach Is (take (i + 1) rows) (elements ++ element ∷ [])
each_next Is rows elements i other element inside are is =
    subst (λ rs. AreEach Is rs (elements ++ element ∷ [])) (sym (take_more rows i other inside)) (each_more Is (take i rows) elements (get_or rows i other) element are is)

-- the rows before the next one, which stands for nothing
pub fault_at : {A B : Type 0} (Is : A → B → Type 0) (IsNone : A → ℕ → Type 0) (rows : List A) (elements : List B) (i : ℕ) (other : A) (status : ℕ) → i < length rows
    → AreEach Is (take i rows) elements → IsNone (get_or rows i other) status → FirstFault Is IsNone rows i status
fault_at Is IsNone rows elements i other status inside are none = record {
  before = take i rows;
  elements = elements;
  row = get_or rows i other;
  after = drop (i + 1) rows;
  split = sym (take-append-drop i rows) ∙ ap (λ rs. take i rows ++ rs) (drop_more rows i other inside);
  number = sym (length-take-le i rows (omega (arith, inside)));
  good = are;
  fault = none;
}

-- what is so of the elements in a list, of a list with one more
pub each_appended : {A B : Type 0} (Is : A → B → Type 0) (rows : List A) (elements more : List B) (i : ℕ) (other : A) (element : B) → i < length rows
    → AreEach Is (take i rows) elements → Is (get_or rows i other) element → more ≡ elements ++ element ∷ [] → AreEach Is (take (i + 1) rows) more
each_appended Is rows elements more i other element inside are is same =
    subst (λ es. AreEach Is (take (i + 1) rows) es) (sym same) (each_next Is rows elements i other element inside are is)

-- the same of what a list is mapped to
pub each_pushed : {A B X : Type 0} (Is : A → B → Type 0) (f : X → B) (rows : List A) (xs pushed : List X) (i : ℕ) (other : A) (x : X) → i < length rows
    → AreEach Is (take i rows) (map f xs) → Is (get_or rows i other) (f x) → pushed ≡ xs ++ x ∷ [] → AreEach Is (take (i + 1) rows) (map f pushed)
each_pushed Is f rows xs pushed i other x inside are is same =
    each_appended Is rows (map f xs) (map f pushed) i other (f x) inside are is (ap (map f) same ∙ map-append f xs (x ∷ []))
