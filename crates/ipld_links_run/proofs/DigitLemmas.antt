-- Hexadecimal digits and the bytes of a line.
use Rattle.std.proofs.Common.{◌≡◌, ◌≢◌, ℕ, ◌+◌, ◌*◌, ◌/◌, ◌%◌, ◌<◌, ◌≤◌, Bool, true, false, eqb, List, [], ◌∷◌, ◌++◌, length, take, drop, get_or, Option, Some, None, Result, Ok, Err, MatchResult, MatchBool, ◌⊎◌, inl, inr, unwrap_or, ltb, refl, sym, ap, subst, ◌∙◌, arith, eq-eqb}
use Rattle.std.proofs.Math.Seq.{take-append_seam}
use Rattle.std.proofs.lemmas.Bool.{agree_below_at, cases_lt, eqb-true, lt-ltb, le-ltb}
use Rattle.std.proofs.lemmas.Grind.{or_after_shift}
use Rattle.std.proofs.lemmas.Nat.{le_or_l, le_or_r, or_lt}
use Rattle.std.specs.Int.Bits.{bit_or}
use Rattle.std.specs.Prelude.{slice_set}
use Rattle.std.specs.Result.{result_ok}
use Rattle.hex.specs.Hex.{decode_of, decode_sized, decode_pairs, hex_digit_value, pair_value, digit_or_error, ◌>>=◌}
use Rattle.hex.specs.declared.error.FromHexError.{FromHexError}
use Rattle.hex.proofs.Pairs.{prepend, decode_start, decode_step, decode_err, decode_done, decode_sized-pairs}
use Rattle.ipld_links_run.specs.declared.digits.TheConstants.{DIGIT_VALUES}
use Rattle.ipld_links_run.specs.ByteLines.{bytes_of_line}

-- ---- the table

-- the table has the value of each digit, and 255 for each byte that is none
table_is : (c : ℕ) → c < 256 → get_or DIGIT_VALUES c 0 ≡ unwrap_or (hex_digit_value c) 255
table_is c fits =
    eqb-true _ _ (agree_below_at (λ k. eqb (get_or DIGIT_VALUES k 0) (unwrap_or (hex_digit_value k) 255)) (λ k. true) 256 c refl fits)

digit_small : (c v : ℕ) → hex_digit_value c ≡ Some v → v < 16
digit_small c v is = grind (arith)

-- a byte with a value by the table is a digit
digit_by_table : (c : ℕ) → c < 256 → get_or DIGIT_VALUES c 0 < 16 → hex_digit_value c ≡ Some (get_or DIGIT_VALUES c 0)
digit_by_table c fits small = at (hex_digit_value c) refl (subst (λ v. v < 16) (table_is c fits) small) ∙ ap Some (sym (table_is c fits))
  where
    at : (o : Option ℕ) → hex_digit_value c ≡ o → unwrap_or o 255 < 16 → o ≡ Some (unwrap_or o 255)
    at None is few = absurd (omega arith)
    at (Some v) is few = refl

-- and one without is none
none_by_table : (c : ℕ) → c < 256 → 16 ≤ get_or DIGIT_VALUES c 0 → hex_digit_value c ≡ None
none_by_table c fits large = at (hex_digit_value c) refl (subst (λ v. 16 ≤ v) (table_is c fits) large)
  where
    at : (o : Option ℕ) → hex_digit_value c ≡ o → 16 ≤ unwrap_or o 255 → o ≡ None
    at None is many = refl
    at (Some v) is many = absurd (omega (arith, digit_small c v is, many))

-- ---- two digits

pair_by_values : (a b i : ℕ) (x y : Option ℕ) → hex_digit_value a ≡ x → hex_digit_value b ≡ y
    → pair_value a b i ≡ (digit_or_error a i x >>= (λ h. digit_or_error b (i + 1) y >>= (λ l. Ok (h * 16 + l))))
pair_by_values a b i x y p q = rw (p, q) refl

-- the byte of two digits
pair_read : (a b i h l : ℕ) → hex_digit_value a ≡ Some h → hex_digit_value b ≡ Some l → h < 16 → l < 16 → pair_value a b i ≡ Ok (bit_or (h * 16 % 256) l)
pair_read a b i h l p q high low =
    pair_by_values a b i (Some h) (Some l) p q ∙ ap (λ (v : ℕ). Ok v) (sym (or_after_shift h 16 256 l refl low (omega arith)))

-- one of two bytes is no digit
pair_fails : (a b i : ℕ) (x y : Option ℕ) → hex_digit_value a ≡ x → hex_digit_value b ≡ y → (x ≡ None) ⊎ (y ≡ None) → (error : FromHexError) × (pair_value a b i ≡ Err error)
pair_fails a b i None y p q fails = (_, pair_by_values a b i None y p q)
pair_fails a b i (Some h) None p q fails = (_, pair_by_values a b i (Some h) None p q)
pair_fails a b i (Some h) (Some l) p q (inl none) = absurd cc
pair_fails a b i (Some h) (Some l) p q (inr none) = absurd cc

-- ---- the loop over pairs

-- after i pairs: the bytes so far, and all values so far in one number, below 16 where each is a digit's
pub record Gathers (digits out : List ℕ) (i seen : ℕ) : Type 0 where
  pub bytes : seen < 16 → decode_pairs 0 digits ≡ prepend (take i out) (decode_pairs (2 * i) (drop (2 * i) digits))
  pub other : 16 ≤ seen → (error : FromHexError) × (decode_pairs 0 digits ≡ Err error)

-- a pair more
pub gathers_more : (digits out : List ℕ) (i seen : ℕ) → Gathers digits out i seen → 2 * i + 1 < length digits → i < length out
    → get_or digits (2 * i) 0 < 256 → get_or digits (2 * i + 1) 0 < 256
    → Gathers digits (slice_set out i (bit_or (get_or DIGIT_VALUES (get_or digits (2 * i) 0) 0 * 16 % 256) (get_or DIGIT_VALUES (get_or digits (2 * i + 1) 0) 0))) (i + 1)
    (bit_or seen (bit_or (get_or DIGIT_VALUES (get_or digits (2 * i) 0) 0) (get_or DIGIT_VALUES (get_or digits (2 * i + 1) 0) 0)))
gathers_more digits out i seen so_far fits room byte_a byte_b =
    record {
      bytes = λ small.
          let few : seen < 16 = omega (arith, le_or_l seen (bit_or h l), small) in
          decode_step digits out i (bit_or (h * 16 % 256) l) fits room (both (omega (arith, le_or_r seen (bit_or h l), le_or_l h l, small)) (omega (arith, le_or_r seen (bit_or h l), le_or_r h l, small))) (so_far.bytes few);
      other = λ large. elim (cases_lt seen 16) [
        | inr many ↦ so_far.other many
        | inl few ↦
            let fails = pair_fails a b (2 * i) _ _ refl refl (lacks few large (cases_lt h 16) (cases_lt l 16)) in
            (fails.0, decode_err digits out i fails.0 fits fails.1 (so_far.bytes few))
      ];
    }
  where
    a : ℕ
    a = get_or digits (2 * i) 0

    b : ℕ
    b = get_or digits (2 * i + 1) 0

    h : ℕ
    h = get_or DIGIT_VALUES a 0

    l : ℕ
    l = get_or DIGIT_VALUES b 0

    both : h < 16 → l < 16 → pair_value a b (2 * i) ≡ Ok (bit_or (h * 16 % 256) l)
    both high low = pair_read a b (2 * i) h l (digit_by_table a byte_a high) (digit_by_table b byte_b low) high low

    lacks : seen < 16 → 16 ≤ bit_or seen (bit_or h l) → (h < 16) ⊎ (16 ≤ h) → (l < 16) ⊎ (16 ≤ l) → (hex_digit_value a ≡ None) ⊎ (hex_digit_value b ≡ None)
    lacks few large (inr high) low = inl (none_by_table a byte_a high)
    lacks few large (inl high) (inr low) = inr (none_by_table b byte_b low)
    lacks few large (inl high) (inl low) = absurd (omega (arith, or_lt 4 seen (bit_or h l) few (or_lt 4 h l high low), large))

-- ---- a line

sized_is_whole : (line : List ℕ) (n : ℕ) → n ≡ length line / 2 → decode_sized line n ≡ decode_of line
sized_is_whole line n sized = rw (eq-eqb (length line / 2) n (sym sized)) refl

-- what decoding returned and left, by what the digits are
abbrev Decodes : Result (List ℕ) FromHexError → Bool → List ℕ → Type 0
Decodes digits result out = MatchResult digits (λ bytes. (result ≡ true) × (out ≡ bytes)) (λ error. result ≡ false)

pub all_gathered : (digits out : List ℕ) (i n seen : ℕ) → Gathers digits out i seen → length digits % 2 ≡ 0 → length digits / 2 ≡ n → length out ≡ n → n ≤ i
    → Decodes (decode_sized digits n) (ltb seen 16) out
all_gathered digits out i n seen so_far even half long end = elim (cases_lt seen 16) [
  | inl small ↦ rw (decode_sized-pairs digits n even half ∙ decode_done digits out i (omega arith) (omega arith) (so_far.bytes small)) (lt-ltb seen 16 small, refl)
  | inr large ↦ rw (decode_sized-pairs digits n even half ∙ (so_far.other large).1) (le-ltb seen 16 large)
]

decoded : (digits : Result (List ℕ) FromHexError) (result : Bool) (out : List ℕ) → Decodes digits result out
    → MatchBool result (result_ok digits ≡ Some out) (result_ok digits ≡ None)
decoded (Ok bytes) result out decodes = rw decodes.0 (ap Some (sym decodes.1))
decoded (Err e) result out decodes = rw decodes refl

understood_whole : (line out : List ℕ) (n : ℕ) (result : Bool) → length line ≢ 0 → n ≡ length line / 2 → Decodes (decode_sized line n) result out
    → MatchBool result (bytes_of_line line ≡ Some out) (bytes_of_line line ≡ None)
unfolding bytes_of_line
understood_whole [] out n result some sized decodes = absurd (some refl)
understood_whole (x ∷ xs) out n result some sized decodes =
    decoded (decode_of (x ∷ xs)) result out (subst (λ digits. Decodes digits result out) (sized_is_whole (x ∷ xs) n sized) decodes)

-- the buffer is a vector, of which all was lent
pub understood : (line out rest : List ℕ) (n len : ℕ) (result : Bool) → length line ≢ 0 → n ≡ length line / 2 → length out ≡ len
    → Decodes (decode_sized line n) result out → MatchBool result (bytes_of_line line ≡ Some (take len (out ++ rest))) (bytes_of_line line ≡ None)
understood line out rest n len result some sized long decodes =
    rw (sym long, take-append_seam out rest) (understood_whole line out n result some sized decodes)

-- a line of no digits
pub no_digits : (line : List ℕ) → length line ≡ 0 → bytes_of_line line ≡ None
unfolding bytes_of_line
no_digits [] none = refl
no_digits (x ∷ xs) none = absurd (omega arith)
