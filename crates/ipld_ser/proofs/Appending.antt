-- Parts written one after the other.
use Rattle.std.proofs.Common.{◌≡◌, ℕ, zero, suc, ◌+◌, ◌^◌, ◌<◌, List, [], ◌∷◌, ◌++◌, map, length, get_or, slice_get, take, Bool, true, false, cond, Option, Some, None, option_and_then, Result, Ok, Err, OnOk, refl, ap, sym, subst, ◌∙◌, append_assoc, arith}
use Rattle.std.proofs.lemmas.List.{take_more, take_all, map-append, length-map, append-nil}
use Rattle.std.specs.Borrow.{Bor}
use Rattle.ipld_tree.specs.Tree.{Tree, text}
use Rattle.ipld_ser.specs.Composites.{list_of, list_image, struct_image}
use Rattle.ipld_ser.specs.Image.{both}
use Rattle.ipld_ser.specs.ImageWriter.{Appends, written_image, one_after_another, comes_first, filed, filed_from, indexed, names_of, written_at, fields_filed, entry_written, entry_at, ListsInTurn, FieldsInTurn}
use Rattle.ipld_ser.specs.Names.{AreDistinct}

-- one and then the other
pub appends_both : (o p : Option (List ℕ)) (s a b : List ℕ) → Appends o s a → Appends p a b → Appends (both ◌++◌ o p) s b
appends_both o p s a b first second = record {
  bytes = first.bytes ++ second.bytes;
  is = rw (first.is, second.is) refl;
  appended = second.appended ∙ ap (λ (xs : List ℕ). xs ++ second.bytes) first.appended ∙ append_assoc s first.bytes second.bytes;
}

parts_of : (o p : Option (List ℕ)) (c : List ℕ) → both ◌++◌ o p ≡ Some c → (a : List ℕ) × (b : List ℕ) × (o ≡ Some a) × (p ≡ Some b) × (a ++ b ≡ c)
parts_of None p c is = absurd cc
parts_of (Some a) None c is = absurd cc
parts_of (Some a) (Some b) c is = (a, b, refl, refl, cc)

-- one more goes last
pub one_more : (os : List (Option (List ℕ))) (o : Option (List ℕ)) (b c : List ℕ) → one_after_another os ≡ Some b → o ≡ Some c → one_after_another (os ++ o ∷ []) ≡ Some (b ++ c)
one_more [] o b c before is =
    let none : [] ≡ b = cc in
    ap (λ p. both ◌++◌ p (Some [])) is ∙ ap Some (append-nil c ∙ ap (λ (xs : List ℕ). xs ++ c) none)
one_more (p ∷ os) o b c before is =
    let parts = parts_of p (one_after_another os) b before in
    ap (λ q. both ◌++◌ q (one_after_another (os ++ o ∷ []))) parts.2
    ∙ ap (both ◌++◌ (Some parts.0)) (one_more os o parts.1 c parts.3 is)
    ∙ ap Some (sym (append_assoc parts.0 parts.1 c) ∙ ap (λ (xs : List ℕ). xs ++ c) parts.4)

-- the elements so far, and the next one
pub next_one : {A : Type 0} (f : A → Option (List ℕ)) (xs : List A) (i : ℕ) (d : A) (s a b : List ℕ) → i < length xs
    → Appends (one_after_another (map f (take i xs))) s a → Appends (f (get_or xs i d)) a b → Appends (one_after_another (map f (take (i + 1) xs))) s b
next_one f xs i d s a b below so_far more =
    let x = get_or xs i d in
    let split : map f (take (i + 1) xs) ≡ map f (take i xs) ++ f x ∷ [] = ap (map f) (take_more xs i d below) ∙ map-append f (take i xs) (x ∷ []) in
    record {
      bytes = so_far.bytes ++ more.bytes;
      is = ap one_after_another split ∙ one_more (map f (take i xs)) (f x) so_far.bytes more.bytes so_far.is more.is;
      appended = more.appended ∙ ap (λ (xs : List ℕ). xs ++ more.bytes) so_far.appended ∙ append_assoc s so_far.bytes more.bytes;
    }

pub each_more : {A : Type 0} (f : A → Option (List ℕ)) (xs : List A) (i : ℕ) (x : A) (s a b : List ℕ) → i < length xs → x ≡ get_or xs i x
    → Appends (one_after_another (map f (take i xs))) s a → Appends (f x) a b → Appends (one_after_another (map f (take (i + 1) xs))) s b
each_more f xs i x s a b below is so_far more = next_one f xs i x s a b below so_far (subst (λ y. Appends (f y) a b) is more)

map_twice : {A B C : Type 0} (f : B → C) (g : A → B) (xs : List A) → map f (map g xs) ≡ map (λ x. f (g x)) xs
map_twice f g [] = refl
map_twice f g (x ∷ xs) = ap (λ ys. f (g x) ∷ ys) (map_twice f g xs)

-- what stands behind a head
behind : (o : Option (List ℕ)) (s head h a : List ℕ) (b : List ℕ) → h ≡ s ++ head → a ≡ h ++ b → o ≡ Some (head ++ b) → Appends o s a
behind o s head h a b start rest is = record {
  bytes = head ++ b;
  is = is;
  appended = rest ∙ ap (λ (xs : List ℕ). xs ++ b) start ∙ append_assoc s head b;
}

-- a list is written
pub list_written : (written : Tree → Option (List ℕ)) (head : ℕ → List ℕ) → ListsInTurn written head → (os : List (Option Tree)) (n : ℕ) (s h a : List ℕ) → n ≡ length os → n < 2 ^ 64 → h ≡ s ++ head n
    → Appends (one_after_another (map (written_image written) os)) h a → Appends (written_image written (list_of os)) s a
list_written written head law os n s h a count below start each =
    behind (written_image written (list_of os)) s (head (length os)) h a each.bytes (start ∙ ap (λ m. s ++ head m) count) each.appended
    (law os each.bytes (subst (λ m. m < 2 ^ 64) count below) each.is)

pub elements_written : {A : Type 0} (written : Tree → Option (List ℕ)) (head : ℕ → List ℕ) → ListsInTurn written head → (image : A → Option Tree) (xs : List A) (s h a : List ℕ) → length xs < 2 ^ 64 → h ≡ s ++ head (length xs)
    → Appends (one_after_another (map (λ x. written_image written (image x)) xs)) h a → Appends (written_image written (list_image image xs)) s a
elements_written written head law image xs s h a below start each =
    list_written written head law (map image xs) (length xs) s h a (sym (length-map xs image)) below start
    (subst (λ os. Appends (one_after_another os) h a) (sym (map_twice (written_image written) image xs)) each)

-- ---- structs

-- names with what their indexes stand for
with_values : {X : Type 0} (f : ℕ → X) (k : List ℕ) (i : ℕ) (es : List (List ℕ × ℕ)) → map (λ e. (e.0, f e.1)) (filed k i es) ≡ filed k (f i) (map (λ e. (e.0, f e.1)) es)
with_values f k i [] = refl
with_values {X} f k i (e ∷ es) =
    elim (comes_first e.0 k) as (λ b. map (λ e. (e.0, f e.1)) (cond b (e ∷ filed k i es) ((k, i) ∷ (e ∷ es))) ≡ cond b ((e.0, f e.1) ∷ filed k (f i) (map (λ e. (e.0, f e.1)) es)) ((k, f i) ∷ ((e.0, f e.1) ∷ map (λ e. (e.0, f e.1)) es))) [
      | true ↦ ap (λ (ys : List (List ℕ × X)). (e.0, f e.1) ∷ ys) (with_values f k i es)
      | false ↦ refl
    ]

values_filed : (written : Tree → Option (List ℕ)) (all : List (List ℕ × Option Tree)) (i : ℕ) (fs : List (List ℕ × Option Tree)) (es : List (List ℕ × ℕ)) → ((j : ℕ) → slice_get fs j ≡ slice_get all (i + j))
    → map (λ e. (e.0, written_at written all e.1)) (filed_from i (names_of fs) es) ≡ fields_filed written fs (map (λ e. (e.0, written_at written all e.1)) es)
values_filed written all i [] es at = refl
values_filed written all i (f ∷ fs) es at =
    let here : written_at written all i ≡ written_image written f.1 =
    ap (option_and_then (λ f. written_image written f.1)) (ap (slice_get all) (omega arith) ∙ sym (at 0)) in
    values_filed written all (suc i) fs (filed f.0 i es) (λ j. at (suc j) ∙ ap (slice_get all) (omega arith))
    ∙ ap (fields_filed written fs) (with_values (written_at written all) f.0 i es ∙ ap (λ o. filed f.0 o (map (λ e. (e.0, written_at written all e.1)) es)) here)

filed_count : (k : List ℕ) (i : ℕ) (es : List (List ℕ × ℕ)) → length (filed k i es) ≡ suc (length es)
filed_count k i [] = refl
filed_count k i (e ∷ es) =
    elim (comes_first e.0 k) as (λ b. length (cond b (e ∷ filed k i es) ((k, i) ∷ (e ∷ es))) ≡ suc (length (e ∷ es))) [
      | true ↦ ap suc (filed_count k i es)
      | false ↦ refl
    ]

pub count_filed : (i : ℕ) (ks : List (List ℕ)) (es : List (List ℕ × ℕ)) → length (filed_from i ks es) ≡ length ks + length es
count_filed i [] es = omega arith
count_filed i (k ∷ ks) es = let more = filed_count k i es in let rest = count_filed (suc i) ks (filed k i es) in omega arith

-- a struct is written
pub struct_written : (written : Tree → Option (List ℕ)) (head : ℕ → List ℕ) → FieldsInTurn written head → (fs : List (List ℕ × Option Tree)) (order : List (Bor (List ℕ) × ℕ)) (s h a : List ℕ) → AreDistinct (names_of fs)
    → indexed order ≡ filed_from 0 (names_of fs) [] → length order < 2 ^ 64 → h ≡ s ++ head (length order)
    → Appends (one_after_another (map (entry_at written fs) order)) h a → Appends (written_image written (struct_image fs)) s a
struct_written written head law fs order s h a distinct ordered below start each =
    let value = written_at written fs in
    let filed_values : map (λ e. (e.0, value e.1)) (indexed order) ≡ fields_filed written fs [] =
    ap (map (λ e. (e.0, value e.1))) ordered ∙ values_filed written fs 0 fs [] (λ j. ap (slice_get fs) (omega arith)) in
    let entries : map (entry_written written) (fields_filed written fs []) ≡ map (entry_at written fs) order =
    ap (map (entry_written written)) (sym filed_values) ∙ ap (map (entry_written written)) (map_twice (λ e. (e.0, value e.1)) (λ e. (e.0.now, e.1)) order)
    ∙ map_twice (entry_written written) (λ e. (e.0.now, value e.1)) order in
    let count : length order ≡ length fs =
    sym (length-map order (λ e. (e.0.now, e.1))) ∙ ap length ordered ∙ count_filed 0 (names_of fs) [] ∙ (let same = length-map fs (λ f. f.0) in omega arith) in
    behind (written_image written (struct_image fs)) s (head (length fs)) h a each.bytes (start ∙ ap (λ m. s ++ head m) count) each.appended
    (law fs each.bytes distinct (subst (λ m. m < 2 ^ 64) count below) (ap one_after_another entries ∙ each.is))
