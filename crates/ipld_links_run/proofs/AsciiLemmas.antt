-- Each line that means a token is ASCII, and so is UTF-8.
use Rattle.std.proofs.Common.{inl, inr, ◌≡◌, ℕ, ℤ, ◌<◌, ◌^◌, ◌+◌, ◌==◌, ◌&&◌, ◌||◌, not, suc, Bool, true, false, cond, List, [], ◌∷◌, ◌++◌, length, codes, Option, None, Some, option_map, Result, Ok, Err, refl, sym, ap, subst, ◌∙◌, arith, pos, neg_ℤ, nat_lt}
use Rattle.std.proofs.lemmas.Bool.{false≢true, and_parts, cases_Bool, cond-true, cond-false, eqb-true}
use Rattle.std.proofs.lemmas.Bool.Decides.{nat_tests}
use Rattle.std.proofs.lemmas.Option.{cond_some, option_and_then_some, none-some, same_Some}
use Rattle.std.proofs.lemmas.Str.{IsAscii-append, IsUtf8-from_ascii}
use Rattle.std.proofs.lemmas.Str.Ascii.{IsAscii-nil, IsAscii-cons, IsAscii-from_all}
use Rattle.std.proofs.lemmas.Slice.Eq.{bytes_eq-Decides}
use Rattle.std.proofs.lemmas.List.Elements.{All-weaker}
use Rattle.std.proofs.lemmas.List.Sums.{split_at_first, passes_at_first}
use Rattle.std.specs.Char.{is_ascii_digit}
use Rattle.std.specs.List.{AllPass, list_all, list_any, before_first, after_first, position_or_len}
use Rattle.std.specs.Map.{lookup}
use Rattle.std.specs.Result.{result_ok}
use Rattle.std.specs.Str.{IsAscii, IsUtf8, bytes_eq, all_ascii_digits}
use Rattle.hex.specs.Hex.{is_hex_digit}
use Rattle.hex.proofs.HexLemmas.{decode_of-ok}
use Rattle.ipld_tokens.specs.Token.{TokenModel}
use Rattle.ipld_links_run.specs.TokenLine.{numeral_below, number_below, int_field, bool_field, bytes_field, text_field, char_field, if_utf8, plain_lines, field_lines, plain_token, field_token, is_blank, token_of_line}

-- ---- lists that are written out

abbrev all_ascii : List ℕ → Bool
all_ascii bs = list_all (λ b. nat_lt b 128) bs

below_128 : (b : ℕ) → nat_lt b 128 ≡ true → b < 128
below_128 b h = grind (arith, nat_tests)

ascii_if : (bs : List ℕ) → all_ascii bs ≡ true → IsAscii bs
ascii_if [] h = IsAscii-nil
ascii_if (b ∷ bs) h = let p = and_parts _ _ h in IsAscii-cons b bs (below_128 b p.0) (ascii_if bs p.1)

same_bytes : (xs ys : List ℕ) → bytes_eq xs ys ≡ true → all_ascii ys ≡ true → IsAscii xs
same_bytes xs ys e h = subst IsAscii (sym ((bytes_eq-Decides xs ys).0 e)) (ascii_if ys h)

-- ---- fields

of_map : {A B : Type 0} (f : A → B) (o : Option A) (y : B) → option_map f o ≡ Some y → (x : A) × (o ≡ Some x)
of_map f None y h = absurd (none-some _ h)
of_map f (Some x) y h = (x, refl)

digit : (c : ℕ) → is_ascii_digit c ≡ true → c < 128
digit c h = grind (arith, nat_tests)

digits_ascii : (ds : List ℕ) → all_ascii_digits ds ≡ true → IsAscii ds
digits_ascii [] h = IsAscii-nil
digits_ascii (c ∷ cs) h = let p = and_parts _ _ h in IsAscii-cons c cs (digit c p.0) (digits_ascii cs p.1)

numeral_ascii : (limit : ℕ) (ds : List ℕ) (n : ℕ) → numeral_below limit ds ≡ Some n → IsAscii ds
numeral_ascii limit [] n h = IsAscii-nil
numeral_ascii limit (c ∷ cs) n h = digits_ascii (c ∷ cs) (and_parts _ _ (cond_some _ _ _ h).0).0

behind : (c k : ℕ) (cs : List ℕ) → c == k ≡ true → k < 128 → IsAscii cs → IsAscii (c ∷ cs)
behind c k cs e small h = let is = eqb-true c k e in IsAscii-cons c cs (omega arith) h

pub number_ascii : (limit : ℕ) (field : List ℕ) (n : ℕ) → number_below limit field ≡ Some n → IsAscii field
unfolding number_below
number_ascii limit [] n h = IsAscii-nil
number_ascii limit (c ∷ cs) n h =
    elim (cases_Bool (c == 43)) [
      | inl plus ↦ behind c 43 cs plus (omega arith) (numeral_ascii limit cs n (sym (cond-true _ _ _ plus) ∙ h))
      | inr plain ↦ numeral_ascii limit (c ∷ cs) n (sym (cond-false _ _ _ plain) ∙ h)
    ]

int_ascii : (field : List ℕ) (n : ℤ) → int_field field ≡ Some n → IsAscii field
unfolding int_field
int_ascii [] n h = IsAscii-nil
int_ascii (c ∷ cs) n h =
    elim (cases_Bool (c == 45)) [
      | inl minus ↦
          let m = of_map (λ n. neg_ℤ (pos n)) _ n (sym (cond-true _ _ _ minus) ∙ h) in
          behind c 45 cs minus (omega arith) (numeral_ascii _ cs m.0 m.1)
      | inr plain ↦
          let m = of_map pos _ n (sym (cond-false _ _ _ plain) ∙ h) in
          number_ascii _ (c ∷ cs) m.0 m.1
    ]

bool_ascii : (field : List ℕ) (b : Bool) → bool_field field ≡ Some b → IsAscii field
unfolding bool_field
bool_ascii field b h =
    elim (cases_Bool (bytes_eq field (codes "true"))) [
      | inl is ↦ same_bytes field (codes "true") is refl
      | inr other ↦ same_bytes field (codes "false") (cond_some _ _ _ (sym (cond-false _ _ _ other) ∙ h)).0 refl
    ]

hex_digit : (c : ℕ) → is_hex_digit c ≡ true → c < 128
hex_digit c h = grind (arith, nat_tests)

hex_ascii : (ds : List ℕ) → AllPass is_hex_digit ds → IsAscii ds
hex_ascii ds h = IsAscii-from_all ds (All-weaker (λ c. is_hex_digit c ≡ true) (λ c. c < 128) hex_digit ds h)

ok_is : {E : Type 0} (r : Result (List ℕ) E) (x : List ℕ) → result_ok r ≡ Some x → r ≡ Ok x
ok_is (Ok y) x h = cc h
ok_is (Err e) x h = absurd (none-some _ h)

bytes_ascii : (field bytes : List ℕ) → bytes_field field ≡ Some bytes → IsAscii field
unfolding bytes_field
bytes_ascii [] bytes h = IsAscii-nil
bytes_ascii (c ∷ cs) bytes h =
    elim (cases_Bool (bytes_eq (c ∷ cs) (codes "-"))) [
      | inl none ↦ same_bytes (c ∷ cs) (codes "-") none refl
      | inr some ↦ hex_ascii (c ∷ cs) (decode_of-ok (c ∷ cs) bytes (ok_is _ _ (sym (cond-false _ _ _ some) ∙ h))).1
    ]

text_ascii : (field text : List ℕ) → text_field field ≡ Some text → IsAscii field
unfolding text_field
text_ascii field text h = option_and_then_some if_utf8 (bytes_field field) text h (λ bytes is _. bytes_ascii field bytes is)

char_ascii : (field : List ℕ) (c : ℕ) → char_field field ≡ Some c → IsAscii field
unfolding char_field
char_ascii field c h = option_and_then_some _ (text_field field) c h (λ text is _. text_ascii field text is)

-- ---- names

abbrev names_ascii : {X : Type 0} → List (List ℕ × X) → Bool
names_ascii [] = true
names_ascii (e ∷ es) = all_ascii e.0 && names_ascii es

name_ascii : {X : Type 0} (name : List ℕ) (lines : List (List ℕ × X)) (x : X) → names_ascii lines ≡ true → lookup (bytes_eq name) lines ≡ Some x → IsAscii name
name_ascii name [] x names h = absurd (none-some _ h)
name_ascii name (e ∷ es) x names h =
    let p = and_parts _ _ names in
    elim (cases_Bool (bytes_eq name e.0)) [
      | inl same ↦ same_bytes name e.0 same p.0
      | inr other ↦ name_ascii name es x p.1 (sym (cond-false _ _ _ other) ∙ h)
    ]

abbrev IsOfAscii : (List ℕ → Option TokenModel) → Type 0
IsOfAscii means = (field : List ℕ) (t : TokenModel) → means field ≡ Some t → IsAscii field

abbrev AllOfAscii : List (List ℕ × (List ℕ → Option TokenModel)) → Type 0
AllOfAscii [] = Unit {0}
AllOfAscii (e ∷ es) = IsOfAscii e.1 × AllOfAscii es

found_ascii : (name : List ℕ) (lines : List (List ℕ × (List ℕ → Option TokenModel))) (means : List ℕ → Option TokenModel)
    → AllOfAscii lines → lookup (bytes_eq name) lines ≡ Some means → IsOfAscii means
found_ascii name [] means all h = absurd (none-some _ h)
found_ascii name (e ∷ es) means all h =
    elim (cases_Bool (bytes_eq name e.0)) [
      | inl same ↦ subst IsOfAscii (same_Some e.1 means (sym (cond-true _ _ _ same) ∙ h)) all.0
      | inr other ↦ found_ascii name es means all.1 (sym (cond-false _ _ _ other) ∙ h)
    ]

fields_ascii : AllOfAscii field_lines
fields_ascii = (
  λ field t h. let m = of_map _ (bool_field field) t h in bool_ascii field m.0 m.1,
  (
    λ field t h. let m = of_map _ (int_field field) t h in int_ascii field m.0 m.1,
    (
      λ field t h. let m = of_map _ (number_below (2 ^ 128) field) t h in number_ascii (2 ^ 128) field m.0 m.1,
      (
        λ field t h. let m = of_map _ (char_field field) t h in char_ascii field m.0 m.1,
        (
          λ field t h. let m = of_map _ (text_field field) t h in text_ascii field m.0 m.1,
          (
            λ field t h. let m = of_map _ (bytes_field field) t h in bytes_ascii field m.0 m.1,
            (
              λ field t h. let m = of_map _ (text_field field) t h in text_ascii field m.0 m.1,
              (
                λ field t h. let m = of_map _ (text_field field) t h in text_ascii field m.0 m.1,
                (
                  λ field t h. let m = of_map _ (number_below (2 ^ 64) field) t h in number_ascii (2 ^ 64) field m.0 m.1,
                  (
                    λ field t h. let m = of_map _ (number_below (2 ^ 64) field) t h in number_ascii (2 ^ 64) field m.0 m.1,
                    (
                        tt),
                  ),
                ),
              ),
            ),
          ),
        ),
      ),
    ),
  ),
)

plain_ascii : (name : List ℕ) (t : TokenModel) → plain_token name ≡ Some t → IsAscii name
unfolding plain_token
plain_ascii name t h = name_ascii name plain_lines t refl h

field_ascii : (name field : List ℕ) (t : TokenModel) → field_token name field ≡ Some t → IsAscii name × IsAscii field
unfolding field_token
field_ascii name field t h =
    option_and_then_some (λ means. means field) (lookup (bytes_eq name) field_lines) t h
    (λ means is yields. (name_ascii name field_lines means refl is, found_ascii name field_lines means fields_ascii is field t yields))

-- ---- lines

pub blank_at : (line : List ℕ) → list_any is_blank line ≡ true → position_or_len is_blank line < length line
blank_at [] h = absurd (false≢true h)
blank_at (c ∷ cs) h = step (is_blank c) (list_any is_blank cs) (position_or_len is_blank cs) (length cs) h (blank_at cs)
  where
    step : (b more : Bool) (p n : ℕ) → (b || more) ≡ true → (more ≡ true → p < n) → cond (not b) (1 + p) 0 < suc n
    step true more p n h later = omega arith
    step false more p n h later = let below = later h in omega arith

pub blank_found : (line : List ℕ) → position_or_len is_blank line < length line → list_any is_blank line ≡ true
blank_found [] h = absurd (omega arith)
blank_found (c ∷ cs) h = step (is_blank c) (list_any is_blank cs) (position_or_len is_blank cs) (length cs) h (blank_found cs)
  where
    step : (b more : Bool) (p n : ℕ) → cond (not b) (1 + p) 0 < suc n → (p < n → more ≡ true) → (b || more) ≡ true
    step true more p n h later = refl
    step false more p n h later = later (omega arith)

cut_there : (line : List ℕ) → list_any is_blank line ≡ true → line ≡ before_first is_blank line ++ 32 ∷ after_first is_blank line
cut_there line h =
    let at = blank_at line h in
    let is = eqb-true _ _ (passes_at_first is_blank line 0 at) in
    split_at_first is_blank line 0 at ∙ ap (λ c. before_first is_blank line ++ c ∷ after_first is_blank line) is

line_ascii : (line : List ℕ) (t : TokenModel) → token_of_line line ≡ Some t → IsAscii line
unfolding token_of_line
line_ascii line t h =
    elim (cases_Bool (list_any is_blank line)) [
      | inl blank ↦
          let p = field_ascii _ _ t (sym (cond-true _ _ _ blank) ∙ h) in
          rw (cut_there line blank) (IsAscii-append _ _ p.0 (IsAscii-cons 32 _ (omega arith) p.1))
      | inr none ↦ plain_ascii line t (sym (cond-false _ _ _ none) ∙ h)
    ]

-- a line that isn't UTF-8 means no token
pub not_utf8 : (line : List ℕ) → (IsUtf8 line → ⊥) → token_of_line line ≡ None
not_utf8 line never = no_token (token_of_line line) refl
  where
    no_token : (o : Option TokenModel) → token_of_line line ≡ o → token_of_line line ≡ None
    no_token None is = is
    no_token (Some t) is = absurd (never (IsUtf8-from_ascii line (line_ascii line t is)))
