-- The rows that a caller gives, and what each of them stands for.
use Rattle.std.specs.Prelude.{◌≡◌, ℕ, List, [], ◌∷◌, ◌++◌, length}

-- True if each row stands for the element at its place.
abbrev pub AreEach : {A B : Type 0} → (A → B → Type 0) → List A → List B → Type 0
AreEach Is [] elements = elements ≡ []
AreEach Is (row ∷ rows) [] = ⊥
AreEach Is (row ∷ rows) (element ∷ elements) = Is row element × AreEach Is rows elements

-- True if the row of this number, counted from 0, is the first that stands for nothing, and the
-- status is that of what is wrong with it.
pub record FirstFault {A B : Type 0} (Is : A → B → Type 0) (IsNone : A → ℕ → Type 0) (rows : List A) (place status : ℕ) : Type 0 where
  pub before : List A
  pub elements : List B
  pub row : A
  pub after : List A
  pub split : rows ≡ before ++ row ∷ after
  pub number : place ≡ length before
  pub good : AreEach Is before elements
  pub fault : IsNone row status
