-- Letters, their values, and the number of eight letters.
use Rattle.std.proofs.Common.{◌≡◌, ℕ, zero, suc, ◌+◌, ◌*◌, ◌/◌, ◌^◌, ◌<◌, ◌≤◌, ◌⊎◌, inl, inr, Bool, true, false, cond, eqb, ltb, List, [], ◌∷◌, ◌++◌, length, get_or, drop, Option, Some, None, refl, sym, ap, subst, ◌∙◌, append_assoc, arith, lit<}
use Rattle.std.specs.Prelude.{map, replicate}
use Rattle.std.specs.List.{flat_map}
use Rattle.std.specs.Option.{option_map, option_and_then}
use Rattle.std.specs.Int.Bits.{bit_or}
use Rattle.std.proofs.lemmas.Bool.{agree_below_at, eqb-true, cond_below, cond_above, cases_lt, ltb-true}
use Rattle.std.proofs.lemmas.Grind.{pow_more}
use Rattle.std.proofs.lemmas.List.{append-nil, drop_more, drop_all}
use Rattle.std.proofs.lemmas.List.Quantifiers.{position-Some}
use Rattle.std.proofs.lemmas.Nat.{le_or_l, le_or_r, or_lt}
use Rattle.std.proofs.Math.Nat.{pow-le-pow_right}
use Rattle.ipld_cid.specs.declared.base32.TheConstants.{BASE32_VALUES}
use Rattle.ipld_cid.specs.Base32.{bits, alphabet, letter}
use Rattle.ipld_cid.specs.TextReading.{value_of, values}
use Rattle.ipld_cid.proofs.Quintets.{bits-append, bits-low}

-- ---- letters

-- the value of a character by the table
abbrev pub by_table : ℕ → Option ℕ
by_table c = cond (ltb (get_or BASE32_VALUES c 0) 32) (Some (get_or BASE32_VALUES c 0)) None

-- a test for equal values
abbrev same_value : Option ℕ → Option ℕ → Bool
same_value None None = true
same_value None (Some b) = false
same_value (Some a) None = false
same_value (Some a) (Some b) = eqb a b

-- values that pass it are equal
same_value-true : (x y : Option ℕ) → same_value x y ≡ true → x ≡ y
same_value-true None None e = refl
same_value-true None (Some b) e = absurd cc
same_value-true (Some a) None e = absurd cc
same_value-true (Some a) (Some b) e = ap (λ (v : ℕ). Some v) (eqb-true a b e)

-- the table holds the values
value_of-table : (c : ℕ) → c < 256 → value_of c ≡ by_table c
unfolding value_of
value_of-table c fits =
    same_value-true (value_of c) (by_table c) (agree_below_at (λ k. same_value (value_of k) (by_table k)) (λ k. true) 256 c refl fits)

-- the table holds bytes
table_byte : (c : ℕ) → c < 256 → get_or BASE32_VALUES c 0 < 256
table_byte c fits = ltb-true (get_or BASE32_VALUES c 0) 256 (agree_below_at (λ k. ltb (get_or BASE32_VALUES k 0) 256) (λ k. true) 256 c refl fits)

-- a letter's value stands in the table
pub letter_in_table : (c : ℕ) → c < 256 → get_or BASE32_VALUES c 0 < 32 → Some (get_or BASE32_VALUES c 0) ≡ value_of c
letter_in_table c fits small = cond_below (get_or BASE32_VALUES c 0) 32 (Some (get_or BASE32_VALUES c 0)) None small ∙ sym (value_of-table c fits)

-- what the table has no value for is no letter
pub no_letter_in_table : (c : ℕ) → c < 256 → 32 ≤ get_or BASE32_VALUES c 0 → None ≡ value_of c
no_letter_in_table c fits large = cond_above (get_or BASE32_VALUES c 0) 32 (Some (get_or BASE32_VALUES c 0)) None None large refl ∙ sym (value_of-table c fits)

-- the value of a letter
pub value_of-letter : (v : ℕ) → v < 32 → value_of (letter v) ≡ Some v
unfolding value_of
value_of-letter v fits =
    same_value-true (value_of (letter v)) (Some v) (agree_below_at (λ k. same_value (value_of (letter k)) (Some k)) (λ k. true) 32 v refl fits)

-- only letters have values
pub value_of-says : (c v : ℕ) → value_of c ≡ Some v → (v < 32) × (letter v ≡ c)
unfolding value_of
value_of-says c v e =
    let says = position-Some (λ (l : ℕ). eqb l c) alphabet v 0 e in
    (says.0, eqb-true (letter v) c says.1)

-- the value of `a`
value_of-a : value_of 97 ≡ Some 0
unfolding value_of
value_of-a = refl

-- ---- the values of letters

-- the first value and the others
abbrev joined : Option ℕ → Option (List ℕ) → Option (List ℕ)
joined value others = option_and_then (λ v. option_map (λ more. v ∷ more) others) value

-- both are there where the list is
joined-some : (value : Option ℕ) (others : Option (List ℕ)) (groups : List ℕ) → joined value others ≡ Some groups
    → (v : ℕ) × (more : List ℕ) × (value ≡ Some v) × (others ≡ Some more) × (groups ≡ v ∷ more)
joined-some None others groups e = absurd cc
joined-some (Some v) None groups e = absurd cc
joined-some (Some v) (Some more) groups e = (v, more, refl, refl, cc)

-- one value is for one letter
pub length-values : (text groups : List ℕ) → values text ≡ Some groups → length groups ≡ length text
length-values [] groups e = let none : groups ≡ [] = cc in ap length none
length-values (c ∷ text) groups e =
    let both = joined-some (value_of c) (values text) groups e in
    let more : length both.1 ≡ length text = length-values text both.1 both.3 in
    ap length both.4 ∙ ap suc more

-- text with values is the letters of those
pub values-letters : (text groups : List ℕ) → values text ≡ Some groups → text ≡ map letter groups
values-letters [] groups e = let none : [] ≡ groups = cc in ap (map letter) none
values-letters (c ∷ text) groups e =
    let both = joined-some (value_of c) (values text) groups e in
    let here = value_of-says c both.0 both.2 in
    ap (λ (l : ℕ). l ∷ text) (sym here.1) ∙ ap (λ (ls : List ℕ). letter both.0 ∷ ls) (values-letters text both.1 both.3) ∙ ap (map letter) (sym both.4)

-- values are below 32
pub values-small : (text groups : List ℕ) → values text ≡ Some groups → (i : ℕ) → get_or groups i 0 < 32
values-small [] groups e i = let none : [] ≡ groups = cc in subst (λ (gs : List ℕ). get_or gs i 0 < 32) none (omega arith)
values-small (c ∷ text) groups e zero =
    let both = joined-some (value_of c) (values text) groups e in
    subst (λ (gs : List ℕ). get_or gs 0 0 < 32) (sym both.4) (value_of-says c both.0 both.2).0
values-small (c ∷ text) groups e (suc i) =
    let both = joined-some (value_of c) (values text) groups e in
    subst (λ (gs : List ℕ). get_or gs (suc i) 0 < 32) (sym both.4) (values-small text both.1 both.3 i)

-- letters have the values that they are of
pub values-map : (groups : List ℕ) → ((i : ℕ) → get_or groups i 0 < 32) → values (map letter groups) ≡ Some groups
values-map [] small = refl
values-map (g ∷ groups) small =
    rw (value_of-letter g (small 0), values-map groups (λ i. small (suc i))) refl

-- values in two parts
abbrev pub appended : Option (List ℕ) → Option (List ℕ) → Option (List ℕ)
appended front back = option_and_then (λ groups. option_map (λ more. groups ++ more) back) front

-- the parts after one value
joined-appended : (value : Option ℕ) (front back : Option (List ℕ)) → joined value (appended front back) ≡ appended (joined value front) back
joined-appended None front back = refl
joined-appended (Some v) None back = refl
joined-appended (Some v) (Some groups) None = refl
joined-appended (Some v) (Some groups) (Some more) = refl

-- nothing in front
pub appended-nil : (back : Option (List ℕ)) → back ≡ appended (Some []) back
appended-nil None = refl
appended-nil (Some more) = refl

-- the values of text in two parts
pub values-append : (front back : List ℕ) → values (front ++ back) ≡ appended (values front) (values back)
values-append [] back = appended-nil (values back)
values-append (c ∷ front) back =
    ap (joined (value_of c)) (values-append front back) ∙ joined-appended (value_of c) (values front) (values back)

-- the values of filling letters
pub values-fill : (k : ℕ) → values (replicate k 97) ≡ Some (replicate k 0)
values-fill zero = refl
values-fill (suc k) = rw (value_of-a, values-fill k) refl

-- ---- eight letters as one number

-- the number that goes on with values
abbrev number_from : ℕ → List ℕ → ℕ
number_from n [] = n
number_from n (g ∷ groups) = number_from (32 * n + g) groups

-- the number that goes on with letters
abbrev pub gathered : ℕ → List ℕ → Option ℕ
gathered n [] = Some n
gathered n (c ∷ text) = option_and_then (λ value. gathered (32 * n + value) text) (value_of c)

-- one value more
gathered_more : (n v : ℕ) (others : Option (List ℕ)) → option_map (number_from (32 * n + v)) others ≡ option_map (number_from n) (option_map (λ more. v ∷ more) others)
gathered_more n v None = refl
gathered_more n v (Some more) = refl

-- the first letter, which has a value or not
gathered_first : (n : ℕ) (value : Option ℕ) (others : Option (List ℕ)) (next : ℕ → Option ℕ) → ((v : ℕ) → next v ≡ option_map (number_from (32 * n + v)) others)
    → option_and_then next value ≡ option_map (number_from n) (joined value others)
gathered_first n None others next is = refl
gathered_first n (Some v) others next is = is v ∙ gathered_more n v others

-- letters make the number of their values
gathered-values : (text : List ℕ) (n : ℕ) → gathered n text ≡ option_map (number_from n) (values text)
gathered-values [] n = refl
gathered-values (c ∷ text) n =
    gathered_first n (value_of c) (values text) (λ v. gathered (32 * n + v) text) (λ v. gathered-values text (32 * n + v))

-- a group more
bits-group : (w n group : ℕ) → group < 32 → bits (w + 5) (32 * n + group) ≡ bits w n ++ bits 5 group
bits-group w n group fits =
    let high : (32 * n + group) / 32 ≡ n = omega arith in
    let turned : 32 * n + group ≡ n * 2 ^ 5 + group = omega arith in
    bits-append w 5 (32 * n + group) ∙ ap (λ (k : ℕ). bits w k ++ bits 5 (32 * n + group)) high
    ∙ ap (λ (k : ℕ). bits w n ++ bits 5 k) turned ∙ ap (λ (bs : List ℕ). bits w n ++ bs) (bits-low 5 n group)

-- the bits of a number that goes on
bits-number : (groups : List ℕ) (w n : ℕ) → ((i : ℕ) → get_or groups i 0 < 32)
    → bits (w + 5 * length groups) (number_from n groups) ≡ bits w n ++ flat_map (bits 5) groups
bits-number [] w n small = let none : w + 5 * 0 ≡ w = omega arith in rw none (sym (append-nil (bits w n)))
bits-number (g ∷ groups) w n small =
    let more : w + 5 * length (g ∷ groups) ≡ (w + 5) + 5 * length groups = omega arith in
    rw more (bits-number groups (w + 5) (32 * n + g) (λ i. small (suc i))
    ∙ ap (λ (bs : List ℕ). bs ++ flat_map (bits 5) groups) (bits-group w n g (small 0))
    ∙ append_assoc (bits w n) (bits 5 g) (flat_map (bits 5) groups))

-- no value, no number
map-none : (f : List ℕ → ℕ) (o : Option (List ℕ)) → option_map f o ≡ None → o ≡ None
map-none f None e = refl
map-none f (Some x) e = absurd cc

-- a number, and so values
map-some : (f : List ℕ → ℕ) (o : Option (List ℕ)) (n : ℕ) → option_map f o ≡ Some n → (x : List ℕ) × (o ≡ Some x) × (f x ≡ n)
map-some f None n e = absurd cc
map-some f (Some x) n e = (x, refl, cc)

-- letters that make no number have no values
pub no_number : (text : List ℕ) → gathered 0 text ≡ None → values text ≡ None
no_number text e = map-none (number_from 0) (values text) (sym (gathered-values text 0) ∙ e)

-- the number of eight letters has the bits of their values
pub number_bits : (text : List ℕ) (n : ℕ) → length text ≡ 8 → gathered 0 text ≡ Some n
    → (groups : List ℕ) × (values text ≡ Some groups) × (flat_map (bits 5) groups ≡ bits 40 n)
number_bits text n whole e =
    let found = map-some (number_from 0) (values text) n (sym (gathered-values text 0) ∙ e) in
    let groups = found.0 in
    let eight : length groups ≡ 8 = length-values text groups found.1 ∙ whole in
    let forty : 0 + 5 * length groups ≡ 40 = omega arith in
    (groups, found.1, sym (bits-number groups 0 0 (values-small text groups found.1)) ∙ ap (λ (w : ℕ). bits w (number_from 0 groups)) forty ∙ ap (bits 40) found.2)

-- ---- the number of letters, read by the table

-- after i letters: the number so far, and all values so far in one number, below 32 where each is there
pub record Gathers (text : List ℕ) (i n seen : ℕ) : Type 0 where
  pub few : n + 9 ≤ 9 * 32 ^ i
  pub letters : seen < 32 → gathered n (drop i text) ≡ gathered 0 text
  pub other : 32 ≤ seen → gathered 0 text ≡ None

-- a letter on
one_more : (text : List ℕ) (i n : ℕ) (value : Option ℕ) → i < length text → gathered n (drop i text) ≡ gathered 0 text → value ≡ value_of (get_or text i 0)
    → option_and_then (λ v. gathered (32 * n + v) (drop (i + 1) text)) value ≡ gathered 0 text
one_more text i n value within so_far is =
    ap (option_and_then (λ (v : ℕ). gathered (32 * n + v) (drop (i + 1) text))) is ∙ ap (gathered n) (sym (drop_more text i 0 within)) ∙ so_far

-- letters so far, and a byte
letters_and : (text : List ℕ) (i n seen v : ℕ) → Gathers text i n seen → i < length text → get_or text i 0 < 256 → v ≡ get_or BASE32_VALUES (get_or text i 0) 0
    → bit_or seen v < 32 → gathered (32 * n + v) (drop (i + 1) text) ≡ gathered 0 text
letters_and text i n seen v so_far within fits is small =
    let in_table : Some v ≡ value_of (get_or text i 0) =
    ap (λ (k : ℕ). Some k) is ∙ letter_in_table (get_or text i 0) fits (subst (λ (k : ℕ). k < 32) is (omega (arith, le_or_r seen v))) in
    one_more text i n (Some v) within (so_far.letters (omega (arith, le_or_l seen v))) in_table

-- a byte that is no letter, so far or here
other_and : (text : List ℕ) (i n seen v : ℕ) → Gathers text i n seen → i < length text → get_or text i 0 < 256 → v ≡ get_or BASE32_VALUES (get_or text i 0) 0
    → 32 ≤ bit_or seen v → gathered 0 text ≡ None
other_and text i n seen v so_far within fits is large = elim (cases_lt seen 32) [
  | inl few ↦ sym (one_more text i n None within (so_far.letters few) (no_letter_in_table (get_or text i 0) fits (subst (λ (k : ℕ). 32 ≤ k) is (here few (cases_lt v 32)))))
  | inr many ↦ so_far.other many
]
  where
    here : seen < 32 → (v < 32) ⊎ (32 ≤ v) → 32 ≤ v
    here few (inl small) = absurd (omega (arith, or_lt 5 seen v few small))
    here few (inr not_small) = not_small

-- a byte more
pub gathers_more : (text : List ℕ) (i n seen : ℕ) → Gathers text i n seen → i < length text → get_or text i 0 < 256
    → Gathers text (i + 1) (32 * n + get_or BASE32_VALUES (get_or text i 0) 0) (bit_or seen (get_or BASE32_VALUES (get_or text i 0) 0))
gathers_more text i n seen so_far within fits =
    let v : ℕ = get_or BASE32_VALUES (get_or text i 0) 0 in
    record {
      few = omega (arith, pow_more 32 i, so_far.few, table_byte (get_or text i 0) fits);
      letters = letters_and text i n seen v so_far within fits refl;
      other = other_and text i n seen v so_far within fits refl;
    }

-- the number of eight bytes fits in 64 bits
pub gathers_fits : (text : List ℕ) (i n seen : ℕ) → Gathers text i n seen → i < length text → length text ≡ 8 → get_or text i 0 < 256
    → 32 * n + get_or BASE32_VALUES (get_or text i 0) 0 < 2 ^ 64
gathers_fits text i n seen so_far within whole fits =
    omega (arith, so_far.few, table_byte (get_or text i 0) fits, pow-le-pow_right {n = 32} (lit< tt) {i = i} {j = 7} (omega arith))

-- eight letters, and their number
pub gathers_all : (text : List ℕ) (i n seen : ℕ) → Gathers text i n seen → length text ≡ 8 → length text ≤ i → seen < 32
    → (groups : List ℕ) × (values text ≡ Some groups) × (flat_map (bits 5) groups ≡ bits 40 n)
gathers_all text i n seen so_far whole end few =
    number_bits text n whole (sym (so_far.letters few) ∙ ap (gathered n) (drop_all i text end))
