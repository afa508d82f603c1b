-- The order of two keys.
use Rattle.std.proofs.Common.{◌≡◌, ℕ, ◌<◌, ◌≤◌, Bool, true, false, ◌||◌, List, length, nat_cmp, is_lt, refl, ap, ◌∙◌, arith, inl, inr, Ordering, Less, Equal, Greater}
use Rattle.std.specs.Prelude.{nat_lt, ◌==◌, ◌&&◌}
use Rattle.std.specs.Cmp.Lexicographic.{slice_cmp}
use Rattle.std.specs.Ordering.{ordering_reverse}
use Rattle.std.proofs.lemmas.Bool.{cases_Bool, ltb-true, ltb-false, eqb-true, eq-eqb}
use Rattle.std.proofs.lemmas.Cmp.{nat_list_cmp_total}
use Rattle.dag_cbor_format.specs.Canonical.{is_before, goes_first}

never_both : (o p : Ordering) → o ≡ ordering_reverse p → is_lt o ≡ true → is_lt p ≡ true → ⊥
never_both Less Less e h h' = let x : Less ≡ Greater = e in cc
never_both Less Equal e h h' = cc
never_both Less Greater e h h' = cc
never_both Equal p e h h' = cc
never_both Greater p e h h' = cc

before_once : (j k : List ℕ) → is_before j k ≡ true → is_before k j ≡ true → ⊥
before_once j k h h' = never_both (slice_cmp nat_cmp j k) (slice_cmp nat_cmp k j) (nat_list_cmp_total.antisymm j k) h h'

first_where : (j k : List ℕ) (a b c : Bool) → nat_lt (length j) (length k) ≡ a → length j == length k ≡ b → is_before j k ≡ c → (a || (b && c)) ≡ true → length j ≤ length k
first_where j k true b c ea eb ec e = let lt = ltb-true (length j) (length k) ea in omega arith
first_where j k false true c ea eb ec e = let same = eqb-true (length j) (length k) eb in omega arith
first_where j k false false c ea eb ec e = absurd cc

-- what goes first is no longer
pub first_le : (j k : List ℕ) → goes_first j k ≡ true → length j ≤ length k
first_le j k e = first_where j k _ _ _ refl refl refl e

later_where : (j k : List ℕ) (a : Bool) (b : Bool) → nat_lt (length j) (length k) ≡ a → (a || b) ≡ false → length k ≤ length j
later_where j k true b ea e = absurd cc
later_where j k false b ea e = ltb-false (length j) (length k) ea

-- and what doesn't is no shorter
pub later_le : (j k : List ℕ) → goes_first j k ≡ false → length k ≤ length j
later_le j k e = later_where j k _ _ refl e

shorter_where : (j k : List ℕ) (a b c : Bool) → nat_lt (length j) (length k) ≡ a → length j == length k ≡ b → is_before j k ≡ c → (a || (b && c)) ≡ true
    → is_before k j ≡ true → length j < length k
shorter_where j k true b c ea eb ec e h = ltb-true (length j) (length k) ea
shorter_where j k false true true ea eb ec e h = absurd (before_once j k ec h)
shorter_where j k false true false ea eb ec e h = absurd cc
shorter_where j k false false c ea eb ec e h = absurd cc

-- of keys that ascend the later goes first only where it is shorter
pub shorter : (j k : List ℕ) → goes_first j k ≡ true → is_before k j ≡ true → length j < length k
shorter j k e h = shorter_where j k _ _ _ refl refl refl e h

from_length : (k q : List ℕ) (a : Bool) → nat_lt (length k) (length q) ≡ a → is_before k q ≡ true → length k ≤ length q → (a || (length k == length q && is_before k q)) ≡ true
from_length k q true ea before le = refl
from_length k q false ea before le =
    let same : (length k == length q) ≡ true = eq-eqb (length k) (length q) (let ge = ltb-false (length k) (length q) ea in omega arith) in
    rw (same, before)

-- a key that is before another and is no longer goes first
pub goes_from : (k q : List ℕ) → is_before k q ≡ true → length k ≤ length q → goes_first k q ≡ true
goes_from k q before le = from_length k q _ refl before le

both_lengths : (j k : List ℕ) (a b c : Bool) → nat_lt (length j) (length k) ≡ a → length j == length k ≡ b → is_before j k ≡ c → (a || (b && c)) ≡ true
    → length k ≤ length j → is_before j k ≡ true
both_lengths j k true b c ea eb ec e le = absurd (let lt = ltb-true (length j) (length k) ea in omega arith)
both_lengths j k false true c ea eb ec e le = ec ∙ e
both_lengths j k false false c ea eb ec e le = absurd cc

-- of two keys only one goes first
pub first_once : (j k : List ℕ) → goes_first j k ≡ true → goes_first k j ≡ false
first_once j k e =
    elim (cases_Bool (goes_first k j)) [
      | inr h ↦ h
      | inl h ↦
          absurd (before_once j k (both_lengths j k _ _ _ refl refl refl e (first_le k j h)) (both_lengths k j _ _ _ refl refl refl h (first_le j k e)))
    ]

lt_less : (o : Ordering) → is_lt o ≡ true → o ≡ Less
lt_less Less e = refl
lt_less Equal e = absurd cc
lt_less Greater e = absurd cc

before_trans : (i j k : List ℕ) → is_before i j ≡ true → is_before j k ≡ true → is_before i k ≡ true
before_trans i j k h h' =
    ap is_lt (nat_list_cmp_total.trans i j k (lt_less (slice_cmp nat_cmp i j) h) (lt_less (slice_cmp nat_cmp j k) h'))

from_lengths : (i j k : List ℕ) (a : Bool) → nat_lt (length i) (length k) ≡ a → goes_first i j ≡ true → goes_first j k ≡ true → (a || (length i == length k && is_before i k)) ≡ true
from_lengths i j k true ea h h' = refl
from_lengths i j k false ea h h' =
    let le = ltb-false (length i) (length k) ea in
    let ij = first_le i j h in
    let jk = first_le j k h' in
    let same : (length i == length k) ≡ true = eq-eqb (length i) (length k) (omega arith) in
    let before = before_trans i j k (both_lengths i j _ _ _ refl refl refl h (omega arith)) (both_lengths j k _ _ _ refl refl refl h' (omega arith)) in
    rw (same, before)

-- what goes before a key goes before what that goes before
pub first_trans : (i j k : List ℕ) → goes_first i j ≡ true → goes_first j k ≡ true → goes_first i k ≡ true
first_trans i j k h h' = from_lengths i j k _ refl h h'
