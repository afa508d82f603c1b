-- Looking into a list and a map, and strings that mean numbers.
use Rattle.std.proofs.Common.{◌≡◌, ℕ, zero, suc, ◌<◌, ◌≤◌, ◌^◌, ◌==◌, ◌&&◌, nat_lt, List, [], ◌∷◌, length, get_or, drop, Option, Some, None, option_map, Result, Ok, Err, String, Global, string_bytes, is_eq, cond, Bool, true, false, refl, subst, ◌∙◌, arith}
use Rattle.std.proofs.lemmas.Bool.{lt-ltb, ltb-true}
use Rattle.std.specs.Borrow.{Bor}
use Rattle.std.specs.Cmp.Lexicographic.{slice_cmp}
use Rattle.std.specs.Ordering.{nat_cmp}
use Rattle.std.specs.Map.{lookup}
use Rattle.std.specs.BTreeMap.{is_at}
use Rattle.std.specs.Result.{result_ok, OkIff}
use Rattle.std.specs.Str.{all_ascii_digits}
use Rattle.std.specs.Str.Parse.{ParsesUnsigned, IsNumeral, digits_value, without_leading_plus}
use Rattle.std.proofs.lemmas.Map.Text.{is_eq-slice_cmp}
use Rattle.std.proofs.lemmas.Str.Parse.{IsNumeralModel, numerals_by_value, tells_all_ascii_digits}
use Rattle.ipld_tree.specs.TreeOf.{tree_of, items_of, members_of}
use Rattle.ipld_tree.specs.Index.{item_at, value_at, without_plus, numeral, number_of}
use Rattle.ipld_tree.specs.declared.ipld.Ipld.{Ipld}

pub item_within : (vs : List Ipld) (i : ℕ) (d : Ipld) → i < length vs → Some (tree_of (get_or vs i d)) ≡ item_at i (items_of vs)
item_within [] i d h = absurd (omega arith)
item_within (v ∷ vs) zero d h = refl
item_within (v ∷ vs) (suc i) d h = item_within vs i d (omega arith)

pub item_past : (vs : List Ipld) (i : ℕ) → length vs ≤ i → None ≡ item_at i (items_of vs)
item_past [] i h = refl
item_past (v ∷ vs) zero h = absurd (omega arith)
item_past (v ∷ vs) (suc i) h = item_past vs i (omega arith)

pub of_ref : (r : Option (Bor Ipld)) → option_map (λ x. tree_of x.now) r ≡ option_map tree_of (option_map (λ x. x.now) r)
of_ref None = refl
of_ref (Some x) = refl

chosen : (b : Bool) (v : Ipld) (rest : Option Ipld) → option_map tree_of (cond b (Some v) rest) ≡ cond b (Some (tree_of v)) (option_map tree_of rest)
chosen true v rest = refl
chosen false v rest = refl

pub looked_up : (key : List ℕ) (es : List (String Global × Ipld)) → option_map tree_of (lookup (is_at (λ k. slice_cmp nat_cmp key (string_bytes k))) es) ≡ value_at key (members_of es)
looked_up key [] = refl
looked_up key (e ∷ es) =
    chosen (is_eq (slice_cmp nat_cmp key (string_bytes e.0))) e.1 _ ∙ rw (looked_up key es, is_eq-slice_cmp key (string_bytes e.0))

-- ---- numerals

digits : IsNumeralModel (λ ds. all_ascii_digits ds ≡ true) (digits_value 10)
digits = numerals_by_value _ tells_all_ascii_digits

in_range : (a : Bool) (v n : ℕ) → a ≡ true → v < n → Some v ≡ cond (a && nat_lt v n) (Some v) None
in_range a v n all below = rw (all, lt-ltb v n below)

out_of_range : (a b : Bool) (v : ℕ) → (a ≡ true → b ≡ true → ⊥) → None ≡ cond (a && b) (Some v) None
out_of_range true true v never = absurd (never refl refl)
out_of_range true false v never = refl
out_of_range false b v never = refl

without_plus_same : (b : Bool) (c : ℕ) (cs : List ℕ) → drop (cond b 1 0) (c ∷ cs) ≡ cond b cs (c ∷ cs)
without_plus_same true c cs = refl
without_plus_same false c cs = refl

without_plus_is : (s : List ℕ) → without_leading_plus s ≡ without_plus s
without_plus_is [] = refl
without_plus_is (c ∷ cs) = without_plus_same (c == 43) c cs

parsed_digits : {E : Type 0} → (ds : List ℕ) (r : Result ℕ E)
    → OkIff r (IsNumeral 10 ds × (digits_value 10 ds < 2 ^ 64)) (digits_value 10 ds) → result_ok r ≡ numeral ds
parsed_digits [] (Ok x) h = absurd (omega (arith, h.0.0.0))
parsed_digits [] (Err e) h = refl
parsed_digits (c ∷ cs) (Ok x) h = rw h.1 (in_range _ _ _ (digits.from (c ∷ cs) h.0.0.1) h.0.1)
parsed_digits (c ∷ cs) (Err e) h = out_of_range _ _ _ (λ all below. h ((omega arith, digits.to (c ∷ cs) all), ltb-true _ _ below))

pub parsed_as : {E : Type 0} → (s : List ℕ) (r : Result ℕ E) → ParsesUnsigned 64 10 s r → result_ok r ≡ number_of s
parsed_as s r h = parsed_digits (without_plus s) r (subst (λ t. OkIff r (IsNumeral 10 t × (digits_value 10 t < 2 ^ 64)) (digits_value 10 t)) (without_plus_is s) h)
