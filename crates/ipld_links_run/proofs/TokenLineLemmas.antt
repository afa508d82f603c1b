-- Fields that are numbers, and a line that is cut at its first blank.
use Rattle.std.proofs.Common.{inl, inr, ◌≡◌, ℕ, ℤ, ◌<◌, ◌≤◌, ◌^◌, ◌+◌, ◌==◌, ◌&&◌, Bool, true, false, cond, List, [], ◌∷◌, length, append-nil, FitsSigned, Option, None, Some, option_map, option_and_then, Result, Ok, Err, MatchResult, IsOkAnd, refl, sym, ap, subst, ◌∙◌, arith, pos, neg_ℤ, nat_lt}
use Rattle.std.proofs.lemmas.Bool.{and_parts, false_from_ne_true, ltb-true, lt-ltb, cases_Bool, cond-true, cond-false, eqb-true, eqb-false}
use Rattle.std.proofs.lemmas.Str.Parse.{IsNumeralModel, numerals_by_value, tells_all_ascii_digits, parse_plain, parse_plus, parse_signed_plain, parse_signed_plus, parse_signed_minus}
use Rattle.std.proofs.lemmas.Str.{is_utf8-from_IsUtf8, IsUtf8-from_is_utf8, chars_past_char, chars-nil, encodes-chars, scalars-chars}
use Rattle.std.specs.Char.{encode_utf8, IsScalar}
use Rattle.std.specs.List.{before_first, after_first, position_or_len}
use Rattle.std.specs.Result.{result_ok, OkIff}
use Rattle.std.specs.Map.{lookup}
use Rattle.std.specs.Str.{all_ascii_digits, bytes_eq, chars, IsUtf8, encode_utf8_all, all_scalars}
use Rattle.std.proofs.lemmas.Slice.Eq.{bytes_eq-Decides}
use Rattle.std.specs.Str.Parse.{ParsesUnsigned, ParsesSigned, digits_value}
use Rattle.std.specs.Int.{w128}
use Rattle.ipld_tokens.specs.Token.{TokenModel}
use Rattle.ipld_links_run.specs.declared.token_line.ParseError.{ParseError}
use Rattle.ipld_links_run.specs.declared.token_line.ParseError.TheVariants.{Memory, NotUnderstood}
use Rattle.ipld_links_run.specs.TokenLine.{numeral_below, number_below, int_field, if_utf8, only_one, is_blank, plain_token, field_token, token_of_line}
use Rattle.ipld_links_run.specs.Said.{Parses}
use Rattle.ipld_links_run.proofs.AsciiLemmas.{blank_at, blank_found}

-- ---- numbers

digits : IsNumeralModel (λ ds. all_ascii_digits ds ≡ true) (digits_value 10)
digits = numerals_by_value _ tells_all_ascii_digits

in_range : {A : Type 0} (a : Bool) (v n : ℕ) (x : ℕ → A) → a ≡ true → v < n → Some (x v) ≡ option_map x (cond (a && nat_lt v n) (Some v) None)
in_range a v n x all below = rw (all, lt-ltb v n below) refl

out_of_range : {A : Type 0} (a b : Bool) (v : ℕ) (x : ℕ → A) → (a ≡ true → b ≡ true → ⊥) → None ≡ option_map x (cond (a && b) (Some v) None)
out_of_range true true v x never = absurd (never refl refl)
out_of_range true false v x never = refl
out_of_range false b v x never = refl

-- what parsing returns is the number of a numeral that is in range, and else there is none
reported : {A E : Type 0} (x : ℕ → A) (limit : ℕ) (ds : List ℕ) (r : Result A E)
    → OkIff r ((all_ascii_digits ds ≡ true) × (0 < length ds) × (digits_value 10 ds < limit)) (x (digits_value 10 ds)) → result_ok r ≡ option_map x (numeral_below limit ds)
reported x limit [] (Ok v) h = absurd (omega (arith, h.0.1))
reported x limit [] (Err e) h = refl
reported x limit (c ∷ cs) (Ok v) h = rw h.1 (in_range _ _ _ x h.0.0 h.0.2)
reported x limit (c ∷ cs) (Err e) h = out_of_range _ _ _ x (λ all below. h (all, omega arith, ltb-true _ _ below))

same_option : {A : Type 0} (o : Option A) → option_map (λ x. x) o ≡ o
same_option None = refl
same_option (Some x) = refl

pub number_parsed : {E : Type 0} (k : ℕ) (text : List ℕ) (r : Result ℕ E) → ParsesUnsigned k 10 text r → result_ok r ≡ number_below (2 ^ k) text
unfolding number_below
number_parsed k [] r h = reported (λ n. n) (2 ^ k) [] r (parse_plain digits k [] r h (omega arith))
number_parsed k (c ∷ cs) r h =
    elim (cases_Bool (c == 43)) [
      | inl plus ↦
          reported (λ n. n) (2 ^ k) cs r (parse_plus digits k (c ∷ cs) r h (eqb-true c 43 plus)) ∙ same_option _ ∙ sym (cond-true _ _ _ plus)
      | inr plain ↦
          reported (λ n. n) (2 ^ k) (c ∷ cs) r (parse_plain digits k (c ∷ cs) r h (eqb-false c 43 plain)) ∙ same_option _ ∙ sym (cond-false _ _ _ plain)
    ]

up_to : {A E : Type 0} (P Q : Type 0) (v n : ℕ) (x : A) (r : Result A E) → OkIff r (P × Q × (v ≤ n)) x → OkIff r (P × Q × (v < n + 1)) x
up_to P Q v n x (Ok y) h = ((h.0.0, h.0.1, let within = h.0.2 in omega arith), h.1)
up_to P Q v n x (Err e) h = λ p. h (p.0, p.1, let within = p.2 in omega arith)

pub int_parsed : {E : Type 0} (text : List ℕ) (r : Result ℤ E) → ParsesSigned w128 10 text r → result_ok r ≡ int_field text
unfolding int_field number_below
int_parsed [] r h = reported pos (2 ^ 127) [] r (parse_signed_plain digits w128 [] r h (omega arith) (omega arith))
int_parsed (c ∷ cs) r h =
    elim (cases_Bool (c == 45)) [
      | inl minus ↦
          reported (λ n. neg_ℤ (pos n)) (2 ^ 127 + 1) cs r (up_to _ _ _ _ _ r (parse_signed_minus digits w128 (c ∷ cs) r h (eqb-true c 45 minus))) ∙ sym (cond-true _ _ _ minus)
      | inr other ↦ elim (cases_Bool (c == 43)) [
        | inl plus ↦
            reported pos (2 ^ 127) cs r (parse_signed_plus digits w128 (c ∷ cs) r h (eqb-true c 43 plus))
            ∙ ap (option_map pos) (sym (cond-true _ _ _ plus)) ∙ sym (cond-false _ _ _ other)
        | inr plain ↦
            reported pos (2 ^ 127) (c ∷ cs) r (parse_signed_plain digits w128 (c ∷ cs) r h (eqb-false c 43 plain) (eqb-false c 45 other))
            ∙ ap (option_map pos) (sym (cond-false _ _ _ plain)) ∙ sym (cond-false _ _ _ other)
      ]
    ]

-- ---- names

abbrev pub Differs : {X : Type 0} → List ℕ → List (List ℕ × X) → Type 0
Differs name [] = Unit {0}
Differs name (line ∷ lines) = (name ≡ line.0 → ⊥) × Differs name lines

pub not_among : {X : Type 0} (name : List ℕ) (lines : List (List ℕ × X)) → Differs name lines → lookup (bytes_eq name) lines ≡ None
not_among name [] others = refl
not_among name (line ∷ lines) others =
    let other = false_from_ne_true (bytes_eq name line.0) (λ same. others.0 ((bytes_eq-Decides name line.0).0 same)) in
    cond-false _ _ _ other ∙ not_among name lines others.1

-- ---- a token whose field was read

pub mapped : {A B C : Type 0} (value : A → C) (as_token : B → TokenModel) (token : C → TokenModel) (kind : A → B) (said : Option C)
    (r : Result A ParseError) (result : Result B ParseError) → Parses value said r → ((x : A) → as_token (kind x) ≡ token (value x))
    → MatchResult r (λ x. IsOkAnd result (λ y. y ≡ kind x)) (λ e. result ≡ Err e) → Parses as_token (option_map token said) result
mapped value as_token token kind said (Ok x) (Ok y) read same is = rw (read, is) (ap Some (sym (same x)))
mapped value as_token token kind said (Ok x) (Err e) read same is = absurd is
mapped value as_token token kind said (Err e) (Ok y) read same is = cc is
mapped value as_token token kind said (Err Memory) (Err Memory) read same is = tt
mapped value as_token token kind said (Err Memory) (Err NotUnderstood) read same is = cc is
mapped value as_token token kind said (Err NotUnderstood) (Err Memory) read same is = tt
mapped value as_token token kind said (Err NotUnderstood) (Err NotUnderstood) read same is = rw read refl

-- what was rejected is rejected
pub passed_on : {A B C D : Type 0} (value : A → C) (as_value : B → D) (next : C → Option D) (said : Option C) (error : ParseError)
    (result : Result B ParseError) → Parses value said (Err error) → result ≡ Err error → Parses as_value (option_and_then next said) result
passed_on value as_value next said Memory result read is = rw is tt
passed_on value as_value next said NotUnderstood result read is = rw (is, read) refl

-- the number that was parsed, or none
pub number_is : {A E : Type 0} (r : Result A E) (x : A) (said : Option A) → r ≡ Ok x → result_ok r ≡ said → said ≡ Some x
number_is (Ok y) x said is same = cc
number_is (Err e) x said is same = cc is

pub number_is_none : {A E : Type 0} (r : Result A E) (e : E) (said : Option A) → r ≡ Err e → result_ok r ≡ said → said ≡ None
number_is_none (Ok y) e said is same = cc is
number_is_none (Err d) e said is same = sym same

pub int_fits : {E : Type 0} (text : List ℕ) (r : Result ℤ E) (n : ℤ) → r ≡ Ok n → ParsesSigned w128 10 text r → FitsSigned w128 n
int_fits text (Ok m) n is h = let same : m ≡ n = cc is in subst (FitsSigned w128) (sym h.1 ∙ same) h.0.1
int_fits text (Err e) n is h = absurd (err_ok is)
  where
    err_ok : {A E : Type 0} {e : E} {x : A} → Err e ≡ Ok x → ⊥
    err_ok h = cc h

-- ---- texts

pub is_text : (bytes : List ℕ) → IsUtf8 bytes → if_utf8 bytes ≡ Some bytes
is_text bytes utf8 = cond-true _ _ _ (is_utf8-from_IsUtf8 bytes utf8)

pub is_no_text : (bytes : List ℕ) → (IsUtf8 bytes → ⊥) → if_utf8 bytes ≡ None
is_no_text bytes never = cond-false _ _ _ (false_from_ne_true _ (λ e. never (IsUtf8-from_is_utf8 bytes e)))

pub one_char : (text : List ℕ) (c : ℕ) → IsUtf8 text → text ≡ encode_utf8 c → only_one (chars text) ≡ Some c
one_char text c utf8 is = ap only_one (chars_past_char text [] c utf8 (is ∙ sym (append-nil _)) ∙ ap (λ cs. c ∷ cs) chars-nil)

pub not_one_char : (text : List ℕ) → IsUtf8 text → ((c : ℕ) → IsScalar c → text ≡ encode_utf8 c → ⊥) → only_one (chars text) ≡ None
not_one_char text utf8 never = by (chars text) refl
  where
    by : (cs : List ℕ) → chars text ≡ cs → only_one cs ≡ None
    by [] is = refl
    by (c ∷ []) is =
        absurd (never c (and_parts _ _ (ap all_scalars (sym is) ∙ scalars-chars text utf8)).0 (sym (encodes-chars text utf8) ∙ ap encode_utf8_all is ∙ append-nil _))
    by (c ∷ d ∷ cs) is = refl

-- ---- names and fields

pub no_blank : (line : List ℕ) → position_or_len is_blank line ≡ length line → token_of_line line ≡ plain_token line
unfolding token_of_line
no_blank line none = cond-false _ _ _ (false_from_ne_true _ (λ some. let at = blank_at line some in omega arith))

pub at_blank : (line name field : List ℕ) → position_or_len is_blank line < length line → name ≡ before_first is_blank line
    → field ≡ after_first is_blank line → token_of_line line ≡ field_token name field
unfolding token_of_line
at_blank line name field some is_name is_field =
    cond-true _ _ _ (blank_found line some) ∙ ap (λ n. field_token n (after_first is_blank line)) (sym is_name) ∙ ap (field_token name) (sym is_field)

pub twice : {A B C : Type 0} (f : B → C) (g : A → B) (o : Option A) → option_map f (option_map g o) ≡ option_map (λ x. f (g x)) o
twice f g None = refl
twice f g (Some x) = refl
