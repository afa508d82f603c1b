-- The links of folders and of shards are in order.
use Rattle.std.proofs.Common.{◌≡◌, ◌<◌, ◌/◌, ◌%◌, ℕ, suc, true, false, List, [], ◌∷◌, ◌++◌, map, Some, None, refl, sym, ap, ◌∙◌, arith, inl, inr}
use Rattle.std.specs.Prelude.{◌⊎◌, if◌then◌else◌, Bool, unwrap_or}
use Rattle.std.specs.Cmp.{nat_cmp_is}
use Rattle.std.specs.Cmp.Lexicographic.{slice_cmp}
use Rattle.std.specs.Ordering.{nat_cmp, is_lt, ordering_reverse, ordering_then}
use Rattle.std.specs.declared.cmp.Ordering.{Ordering}
use Rattle.std.specs.declared.cmp.Ordering.TheVariants.{Less, Equal, Greater}
use Rattle.std.proofs.lemmas.Bool.{cases_lt}
use Rattle.std.proofs.lemmas.Bool.Decides.{nat_tests}
use Rattle.std.proofs.lemmas.Cmp.{nat_list_cmp_total}
use Rattle.dag_pb.specs.Writing.{precedes, misplaced_after, misplaced_link}
use Rattle.unixfs_folders.specs.Folders.{EntryParts, SlotParts, link_of_entry, link_of_slot, AreEntries, AreSlots}
use Rattle.unixfs_folders.specs.Names.{comes_before, digit, digits}

-- ---- plain folders

turned : (o p : Ordering) → p ≡ ordering_reverse o → is_lt o ≡ true → is_lt p ≡ false
turned Less p is less = ap is_lt is
turned Equal p is less = absurd cc
turned Greater p is less = absurd cc

not_first : (e f : EntryParts) → comes_before e.name f.name ≡ true → precedes (link_of_entry f) (link_of_entry e) ≡ false
unfolding comes_before precedes
not_first e f before = turned (slice_cmp nat_cmp e.name f.name) (slice_cmp nat_cmp f.name e.name) (nat_list_cmp_total.antisymm f.name e.name) before

entries_after : (index : ℕ) (e : EntryParts) (es : List EntryParts) → AreEntries (Some e.name) es → misplaced_after index (link_of_entry e) (map link_of_entry es) ≡ None
entries_after index e [] are = refl
entries_after index e (f ∷ es) are =
    ap (λ (b : Bool). if b then Some index else misplaced_after (suc index) (link_of_entry f) (map link_of_entry es)) (not_first e f are.1)
    ∙ entries_after (suc index) f es are.2

pub entries_in_order : (es : List EntryParts) → AreEntries None es → misplaced_link (map link_of_entry es) ≡ None
entries_in_order [] are = refl
entries_in_order (e ∷ es) are = entries_after 1 e es are.2

-- ---- shards

digit_more : (n m : ℕ) → n < m → m < 16 → digit n < digit m
digit_more n m less small = grind (arith, nat_tests)

first_more : (a c : ℕ) (o : Ordering) → c < a → is_lt (ordering_then (nat_cmp a c) o) ≡ false
first_more a c o more = ap (λ (r : Ordering). is_lt (ordering_then r o)) (sym (nat_cmp_is a c Greater more))

same_first : (a c : ℕ) (o : Ordering) → a ≡ c → is_lt o ≡ false → is_lt (ordering_then (nat_cmp a c) o) ≡ false
same_first a c o same rest = ap (λ (r : Ordering). is_lt (ordering_then r o)) (sym (nat_cmp_is a c Equal same)) ∙ rest

high_more : (n m : ℕ) → n < m → (n / 16 < m / 16) ⊎ ((m / 16 ≡ n / 16) × (n % 16 < m % 16))
high_more n m less = elim (cases_lt (n / 16) (m / 16)) [
  | inl high ↦ inl high
  | inr low ↦ inr (omega (arith, less, low), omega (arith, less, low))
]

digits_more : (n m : ℕ) (x y : List ℕ) → n < m → m < 256 → is_lt (slice_cmp nat_cmp (digits m ++ x) (digits n ++ y)) ≡ false
unfolding digits
digits_more n m x y less small = elim (high_more n m less) [
  | inl high ↦ first_more (digit (m / 16)) (digit (n / 16)) _ (digit_more (n / 16) (m / 16) high (omega arith))
  | inr low ↦ same_first (digit (m / 16)) (digit (n / 16)) _ (ap digit low.0)
      (first_more (digit (m % 16)) (digit (n % 16)) _ (digit_more (n % 16) (m % 16) low.1 (omega arith)))
]

slots_after : (index least : ℕ) (s : SlotParts) (ss : List SlotParts) → s.slot < least → AreSlots least ss → misplaced_after index (link_of_slot s) (map link_of_slot ss) ≡ None
unfolding precedes
slots_after index least s [] below are = refl
slots_after index least s (t ∷ ss) below are =
    ap (λ (b : Bool). if b then Some index else misplaced_after (suc index) (link_of_slot t) (map link_of_slot ss))
    (digits_more s.slot t.slot (unwrap_or t.name []) (unwrap_or s.name []) (omega (arith, below, are.0)) are.1)
    ∙ slots_after (suc index) (suc t.slot) t ss (omega arith) are.3

pub slots_in_order : (ss : List SlotParts) → AreSlots 0 ss → misplaced_link (map link_of_slot ss) ≡ None
slots_in_order [] are = refl
slots_in_order (s ∷ ss) are = slots_after 1 (suc s.slot) s ss (omega arith) are.3
