-- What stands before the place that is found, and what begins there.
use Rattle.std.proofs.Common.{◌≡◌, ◌≤◌, ◌+◌, ◌-◌, ◌<◌, ℕ, suc, Bool, true, false, cond, ◌==◌, ◌||◌, nat_lt, List, [], ◌∷◌, ◌++◌, length, drop, get_or, drop-cons, Option, Some, None, refl, sym, ap, subst, ◌∙◌, append_assoc, arith}
use Rattle.std.specs.Prelude.{◌≢◌, ⊤}
use Rattle.std.proofs.lemmas.Bool.{false≢true, true≢false, lt-ltb}
use Rattle.std.proofs.lemmas.List.{drop_all}
use Rattle.json.specs.Ascii as ascii
use Rattle.json.specs.Align.{is_good}
use Rattle.json.specs.Text.{content, plain}
use Rattle.json.specs.Token.{Token, begin_object, end_object, begin_array, end_array, key, string, number, boolean, null, bad}
use Rattle.json.specs.Word.{word, head, number_before, after_number, ends_word}
use Rattle.json.specs.Lex as lex
use Rattle.json.specs.Lex.{Lexeme, token, comma, colon, class, operator_lexeme, string_token, lex_byte, Place, fresh, after_value, after_comma, after_key, begins_colon, may_begin, may_close, if_allowed, place_token, punctuate}
use Rattle.dag_json.specs.Lexemes.{lexemes_in, BeginsAt, begins_comma, Separated}
use Rattle.dag_json.specs.Seek.{to_class, mode_of, mode_behind, operator_start, start_in, ends_value, is_string, passed_start, passed, seek_next, seek, first_walk}
use Rattle.dag_json.specs.declared.offset.Mode.{Mode}
use Rattle.dag_json.specs.declared.offset.Mode.TheVariants as mode
use Rattle.dag_json.specs.declared.offset.Last.{Last}
use Rattle.dag_json.specs.declared.offset.Last.TheVariants as last
use Rattle.dag_json.specs.declared.offset.Start.{Start}
use Rattle.dag_json.specs.declared.offset.Start.TheVariants as start
use Rattle.dag_json.specs.declared.offset.Walk.{Walk}

-- ---- what may follow

-- the place behind what was passed last, where a colon follows or none
abbrev place_by : Last → Bool → Place
place_by last.Opening b = fresh
place_by last.Comma b = after_comma
place_by last.Value b = after_value
place_by last.String b = cond b after_key after_value

-- the tokens of the lexemes behind it
abbrev read : Last → List Lexeme → List Token
read l ls = punctuate (place_by l (begins_colon ls)) ls

abbrev last_of : Token → Last
last_of begin_object = last.Opening
last_of end_object = last.Value
last_of begin_array = last.Opening
last_of end_array = last.Value
last_of (key s) = last.Value
last_of (string s) = last.String
last_of (number s) = last.Value
last_of (boolean b) = last.Value
last_of null = last.Value
last_of bad = last.Value

no_comma : (t : Token) → last_of t ≢ last.Comma
no_comma begin_object e = absurd cc
no_comma end_object e = absurd cc
no_comma begin_array e = absurd cc
no_comma end_array e = absurd cc
no_comma (key s) e = absurd cc
no_comma (string s) e = absurd cc
no_comma (number s) e = absurd cc
no_comma (boolean b) e = absurd cc
no_comma null e = absurd cc
no_comma bad e = absurd cc

abbrev pub AreGood : List Token → Type 0
AreGood [] = ⊤
AreGood (t ∷ ts) = (is_good t ≡ true) × AreGood ts

no_bad : (g : Token) (ts : List Token) → is_good g ≡ true → bad ∷ [] ≡ g ∷ ts → ⊥
no_bad g ts good e = let same : bad ≡ g = cc in false≢true (ap is_good same ∙ good)

none : (g : Token) (ts : List Token) → ◌≡◌ {A = List Token} [] (g ∷ ts) → ⊥
none g ts e = absurd cc

-- what goes on behind a token that may stand there
abbrev GoesOn : ((Place → List Token) → List Token) → (Place → List Token) → Place → Token → List Token → Type 0
GoesOn f k next g ts = (ts ≡ k next) × ((other : Place → List Token) → f other ≡ g ∷ other next)

allowed : (a : Bool) (t : Token) (next : Place) (k : Place → List Token) (g : Token) (ts : List Token) → is_good g ≡ true → if_allowed a t k next ≡ g ∷ ts
    → GoesOn (λ other. if_allowed a t other next) k next g ts
allowed true t next k g ts good e = let same : t ≡ g = cc in (cc, λ other. ap (λ u. u ∷ other next) same)
allowed false t next k g ts good e = absurd (no_bad g ts good e)

goes_on : (p : Place) (t : Token) (b : Bool) (k : Place → List Token) (g : Token) (ts : List Token) → is_good g ≡ true → place_token p t b k ≡ g ∷ ts
    → GoesOn (place_token p t b) k (place_by (last_of t) b) g ts
goes_on p begin_object b k g ts good e = allowed (may_begin p) begin_object fresh k g ts good e
goes_on p end_object b k g ts good e = allowed (may_close p) end_object after_value k g ts good e
goes_on p begin_array b k g ts good e = allowed (may_begin p) begin_array fresh k g ts good e
goes_on p end_array b k g ts good e = allowed (may_close p) end_array after_value k g ts good e
goes_on p (key s) b k g ts good e = absurd (no_bad g ts good e)
goes_on p (string s) true k g ts good e = allowed (may_begin p) (key s) after_key k g ts good e
goes_on p (string s) false k g ts good e = allowed (may_begin p) (string s) after_value k g ts good e
goes_on p (number s) b k g ts good e = allowed (may_begin p) (number s) after_value k g ts good e
goes_on p (boolean v) b k g ts good e = allowed (may_begin p) (boolean v) after_value k g ts good e
goes_on p null b k g ts good e = allowed (may_begin p) null after_value k g ts good e
goes_on p bad b k g ts good e = absurd (no_bad g ts good e)

good_token : (p : Place) (t : Token) (b : Bool) (k : Place → List Token) (g : Token) (ts : List Token) → is_good g ≡ true → place_token p t b k ≡ g ∷ ts → is_good t ≡ true
good_token p begin_object b k g ts good e = refl
good_token p end_object b k g ts good e = refl
good_token p begin_array b k g ts good e = refl
good_token p end_array b k g ts good e = refl
good_token p (key s) b k g ts good e = refl
good_token p (string s) b k g ts good e = refl
good_token p (number s) b k g ts good e = refl
good_token p (boolean v) b k g ts good e = refl
good_token p null b k g ts good e = refl
good_token p bad b k g ts good e = absurd (no_bad g ts good e)

-- ---- what begins at a byte

on_cond : (P : Token → Type 0) (b : Bool) (x y : Token) → P x → P y → P (cond b x y)
on_cond P true x y p q = p
on_cond P false x y p q = q

abbrev IsValue : Token → Type 0
IsValue t = last_of t ≡ last.Value

number_last : (t : List ℕ) (o : Option (List ℕ)) → IsValue (number_before t o)
number_last t None = refl
number_last t (Some rest) = on_cond IsValue (ends_word rest) _ bad refl refl

word_last : (t : List ℕ) → IsValue (word t)
unfolding word
word_last t =
    on_cond IsValue (head t == ascii.lower_t) _ _ (on_cond IsValue _ (boolean true) bad refl refl)
    (on_cond IsValue (head t == ascii.lower_f) _ _ (on_cond IsValue _ (boolean false) bad refl refl)
    (on_cond IsValue (head t == ascii.lower_n) _ _ (on_cond IsValue _ null bad refl refl) (number_last t (after_number t))))

string_last : (o : Option (List ℕ)) → is_good (string_token o) ≡ true → last_of (string_token o) ≡ last.String
string_last None good = absurd (false≢true good)
string_last (Some s) good = refl

abbrev pub Begun : Start → ((lex.Mode → List Lexeme) → List Lexeme) → lex.Mode → Type 0
Begun start.Nothing f n = (k : lex.Mode → List Lexeme) → f k ≡ k n
Begun start.Comma f n = (k : lex.Mode → List Lexeme) → f k ≡ comma ∷ k n
Begun start.Colon f n = (k : lex.Mode → List Lexeme) → f k ≡ colon ∷ k n
Begun (start.Token l) f n = (t : Token) × ((k : lex.Mode → List Lexeme) → f k ≡ token t ∷ k n) × (is_good t ≡ true → last_of t ≡ l)

by_tests : (a b c d e : Bool) (n : lex.Mode)
    → Begun (cond a (start.Token last.Opening) (cond b (start.Token last.Value) (cond c (start.Token last.Opening) (cond d (start.Token last.Value) (cond e start.Comma start.Colon)))))
    (λ k. cond a (token begin_object) (cond b (token end_object) (cond c (token begin_array) (cond d (token end_array) (cond e comma colon)))) ∷ k n) n
by_tests true b c d e n = (begin_object, (λ k. refl), (λ good. refl))
by_tests false true c d e n = (end_object, (λ k. refl), (λ good. refl))
by_tests false false true d e n = (begin_array, (λ k. refl), (λ good. refl))
by_tests false false false true e n = (end_array, (λ k. refl), (λ good. refl))
by_tests false false false false true n = λ k. refl
by_tests false false false false false n = λ k. refl

by_operator : (x : ℕ) (n : lex.Mode) → Begun (operator_start x) (λ k. operator_lexeme x ∷ k n) n
by_operator x n = by_tests (x == ascii.open_brace) (x == ascii.close_brace) (x == ascii.open_bracket) (x == ascii.close_bracket) (x == ascii.comma) n

pub by_class : (m : Mode) (c : lex.Class) (x : ℕ) (s : List ℕ) → Begun (start_in m (to_class c) x) (lex_byte (mode_of m) c x s) (mode_of (mode_behind m (to_class c)))
by_class mode.Between lex.quote x s = (string_token (content plain s), (λ k. refl), string_last (content plain s))
by_class mode.Between lex.backslash x s = (bad, (λ k. refl), (λ good. refl))
by_class mode.Between lex.operator x s = by_operator x lex.between
by_class mode.Between lex.space x s = λ k. refl
by_class mode.Between lex.other x s = (word (x ∷ s), (λ k. refl), (λ good. word_last (x ∷ s)))
by_class mode.Word lex.quote x s = λ k. refl
by_class mode.Word lex.backslash x s = λ k. refl
by_class mode.Word lex.operator x s = by_operator x lex.between
by_class mode.Word lex.space x s = λ k. refl
by_class mode.Word lex.other x s = λ k. refl
by_class mode.String lex.quote x s = λ k. refl
by_class mode.String lex.backslash x s = λ k. refl
by_class mode.String lex.operator x s = λ k. refl
by_class mode.String lex.space x s = λ k. refl
by_class mode.String lex.other x s = λ k. refl
by_class mode.Escape c x s = λ k. refl

-- ---- what is found

-- The lexemes before the place are these tokens, and what is left begins there.
pub record Found (may : Bool) (m : lex.Mode) (l : Last) (s : List ℕ) (goods : List Token) (n : ℕ) : Type 0 where
  pub rest : List Lexeme
  pub within : n ≤ length s
  pub lexemes : lex.lex m s ≡ lexemes_in n m s ++ rest
  pub begins : BeginsAt m n s rest
  pub leaving : Place
  pub leaves : (ls : List Lexeme) → begins_colon ls ≡ false → read l (lexemes_in n m s ++ ls) ≡ goods ++ punctuate leaving ls
  pub colon : (ls : List Lexeme) → begins_colon ls ≡ false → is_string l ≡ true → begins_colon (lexemes_in n m s ++ ls) ≡ begins_colon (lex.lex m s)
  pub all : read l (lex.lex m s) ≡ goods ++ punctuate leaving rest
  pub separated : Separated may leaving rest

no_key : (l : Last) (b : Bool) → (is_string l ≡ true → b ≡ false) → place_by l b ≡ place_by l false
no_key last.Opening b h = refl
no_key last.Comma b h = refl
no_key last.Value b h = refl
no_key last.String b h = ap (place_by last.String) (h refl)

-- it is here
here : (may : Bool) (m : lex.Mode) (l : Last) (x : ℕ) (s : List ℕ) (a : Lexeme) (n : lex.Mode) → ((k : lex.Mode → List Lexeme) → lex_byte m (class x) x s k ≡ a ∷ k n)
    → (is_string l ≡ true → begins_colon (a ∷ lex.lex n s) ≡ false) → Separated may (place_by l false) (a ∷ lex.lex n s) → Found may m l (x ∷ s) [] 0
unfolding lexemes_in lex.lex
here may m l x s a n f colons separated = record {
  rest = a ∷ lex.lex n s;
  within = omega arith;
  lexemes = f (λ next. lex.lex next s);
  begins = f (λ next. []);
  leaving = place_by l false;
  leaves = λ ls h. ap (λ b. punctuate (place_by l b) ls) h;
  colon = λ ls h is. h ∙ sym (ap begins_colon (f (λ next. lex.lex next s)) ∙ colons is);
  all = ap (read l) (f (λ next. lex.lex next s)) ∙ ap (λ p. punctuate p (a ∷ lex.lex n s)) (no_key l (begins_colon (a ∷ lex.lex n s)) colons);
  separated = separated;
}

blank_begins : (m n : lex.Mode) (x : ℕ) (s : List ℕ) (k : ℕ) (rest : List Lexeme) → ((i : ℕ) → lexemes_in (suc i) m (x ∷ s) ≡ lexemes_in i n s) → BeginsAt n k s rest → BeginsAt m (suc k) (x ∷ s) rest
blank_begins m n x s k [] f h = ap suc h
blank_begins m n x s k (a ∷ rest) f h = f (suc k) ∙ h ∙ ap (λ ls. ls ++ a ∷ []) (sym (f k))

-- nothing begins at the byte
blank : (may : Bool) (m : lex.Mode) (l : Last) (x : ℕ) (s : List ℕ) (n : lex.Mode) (goods : List Token) (i : ℕ) → ((k : lex.Mode → List Lexeme) → lex_byte m (class x) x s k ≡ k n)
    → Found may n l s goods i → Found may m l (x ∷ s) goods (suc i)
unfolding lexemes_in lex.lex
blank may m l x s n goods i f found =
    let whole = f (λ next. lex.lex next s) in
    let front = f (λ next. lexemes_in i next s) in
    let shorter = found.within in
    record {
      rest = found.rest;
      within = omega arith;
      lexemes = whole ∙ found.lexemes ∙ ap (λ ls. ls ++ found.rest) (sym front);
      begins = blank_begins m n x s i found.rest (λ j. f (λ next. lexemes_in j next s)) found.begins;
      leaving = found.leaving;
      leaves = λ ls h. ap (λ front. read l (front ++ ls)) front ∙ found.leaves ls h;
      colon = λ ls h is. ap (λ front. begins_colon (front ++ ls)) front ∙ found.colon ls h is ∙ sym (ap begins_colon whole);
      all = ap (read l) whole ∙ found.all;
      separated = found.separated;
    }

same_colon : (a : Lexeme) (ls ms : List Lexeme) → begins_colon (a ∷ ls) ≡ begins_colon (a ∷ ms)
same_colon (token t) ls ms = refl
same_colon comma ls ms = refl
same_colon colon ls ms = refl

passed_begins : (m n : lex.Mode) (x : ℕ) (s : List ℕ) (k : ℕ) (a : Lexeme) (rest : List Lexeme) → ((i : ℕ) → lexemes_in (suc i) m (x ∷ s) ≡ a ∷ lexemes_in i n s) → BeginsAt n k s rest
    → BeginsAt m (suc k) (x ∷ s) rest
passed_begins m n x s k a [] f h = ap suc h
passed_begins m n x s k a (b ∷ rest) f h = f (suc k) ∙ ap (λ ls. a ∷ ls) h ∙ ap (λ ls. ls ++ b ∷ []) (sym (f k))

-- a lexeme begins, and is passed
passes : (may : Bool) (m : lex.Mode) (l l' : Last) (x : ℕ) (s : List ℕ) (n : lex.Mode) (a : Lexeme) (front goods : List Token) (i : ℕ)
    → ((k : lex.Mode → List Lexeme) → lex_byte m (class x) x s k ≡ a ∷ k n)
    → ((ls : List Lexeme) → (is_string l' ≡ true → begins_colon ls ≡ begins_colon (lex.lex n s)) → read l (a ∷ ls) ≡ front ++ read l' ls)
    → Found may n l' s goods i → Found may m l (x ∷ s) (front ++ goods) (suc i)
unfolding lexemes_in lex.lex
passes may m l l' x s n a front goods i f h found =
    let whole = f (λ next. lex.lex next s) in
    let before = f (λ next. lexemes_in i next s) in
    let shorter = found.within in
    record {
      rest = found.rest;
      within = omega arith;
      lexemes = whole ∙ ap (λ ls. a ∷ ls) found.lexemes ∙ ap (λ ls. ls ++ found.rest) (sym before);
      begins = passed_begins m n x s i a found.rest (λ j. f (λ next. lexemes_in j next s)) found.begins;
      leaving = found.leaving;
      leaves = λ ls c.
          ap (λ front. read l (front ++ ls)) before ∙ h (lexemes_in i n s ++ ls) (found.colon ls c) ∙ ap (λ ts. front ++ ts) (found.leaves ls c)
          ∙ sym (append_assoc front goods (punctuate found.leaving ls));
      colon = λ ls c is. ap (λ front. begins_colon (front ++ ls)) before ∙ same_colon a (lexemes_in i n s ++ ls) (lex.lex n s) ∙ sym (ap begins_colon whole);
      all = ap (read l) whole ∙ h (lex.lex n s) (λ is. refl) ∙ ap (λ ts. front ++ ts) found.all ∙ sym (append_assoc front goods (punctuate found.leaving found.rest));
      separated = found.separated;
    }

-- ---- a byte, and those behind it

abbrev Apart : Bool → Last → List Token → Type 0
Apart may l goods = may ≡ false → goods ≡ [] → l ≢ last.Comma

abbrev walk : Mode → Last → ℕ → Walk
walk m l left = record { mode = m; last = l; left = left }

abbrev FoundBehind : Bool → Mode → List ℕ → List Token → Type 0
FoundBehind may n s more =
    (l : Last) (goods : List Token) → AreGood goods → read l (lex.lex (mode_of n) s) ≡ goods ++ more → Apart may l goods
    → Found may (mode_of n) l s goods (seek may (walk n l (length goods)) s)

apart_here : (may : Bool) (l : Last) (rest : List Lexeme) → Apart may l [] → begins_comma rest ≡ false → Separated may (place_by l false) rest
apart_here true l rest apart lacks = λ e. lacks
apart_here false last.Opening rest apart lacks = λ e. absurd cc
apart_here false last.Comma rest apart lacks = λ e. apart refl refl refl
apart_here false last.Value rest apart lacks = λ e. absurd cc
apart_here false last.String rest apart lacks = λ e. absurd cc

apart_comma : (may : Bool) (l : Last) (rest : List Lexeme) → Apart may l [] → ends_value l ≡ false → Separated may (place_by l false) rest
apart_comma true last.Opening rest apart lacks = λ e. absurd cc
apart_comma true last.Comma rest apart lacks = λ e. absurd cc
apart_comma true last.Value rest apart lacks = absurd (true≢false lacks)
apart_comma true last.String rest apart lacks = absurd (true≢false lacks)
apart_comma false last.Opening rest apart lacks = λ e. absurd cc
apart_comma false last.Comma rest apart lacks = λ e. apart refl refl refl
apart_comma false last.Value rest apart lacks = λ e. absurd cc
apart_comma false last.String rest apart lacks = λ e. absurd cc

comma_value : (ls : List Lexeme) → read last.Value (comma ∷ ls) ≡ read last.Comma ls
unfolding punctuate
comma_value ls = refl

comma_string : (ls : List Lexeme) → read last.String (comma ∷ ls) ≡ read last.Comma ls
unfolding punctuate
comma_string ls = refl

comma_opening : (ls : List Lexeme) → read last.Opening (comma ∷ ls) ≡ bad ∷ []
unfolding punctuate
comma_opening ls = refl

comma_comma : (ls : List Lexeme) → read last.Comma (comma ∷ ls) ≡ bad ∷ []
unfolding punctuate
comma_comma ls = refl

colon_string : (ls : List Lexeme) → read last.String (colon ∷ ls) ≡ read last.Opening ls
unfolding punctuate
colon_string ls = refl

colon_other : (l : Last) (ls : List Lexeme) → is_string l ≡ false → read l (colon ∷ ls) ≡ bad ∷ []
unfolding punctuate
colon_other last.Opening ls lacks = refl
colon_other last.Comma ls lacks = refl
colon_other last.Value ls lacks = refl
colon_other last.String ls lacks = absurd (true≢false lacks)

token_read : (l : Last) (t : Token) (ls : List Lexeme) → read l (token t ∷ ls) ≡ place_token (place_by l false) t (begins_colon ls) (λ next. punctuate next ls)
unfolding punctuate
token_read last.Opening t ls = refl
token_read last.Comma t ls = refl
token_read last.Value t ls = refl
token_read last.String t ls = refl

same_token : (p : Place) (t : Token) (a b : Bool) (k : Place → List Token) → (is_string (last_of t) ≡ true → a ≡ b) → place_token p t a k ≡ place_token p t b k
same_token p begin_object a b k h = refl
same_token p end_object a b k h = refl
same_token p begin_array a b k h = refl
same_token p end_array a b k h = refl
same_token p (key s) a b k h = refl
same_token p (string s) a b k h = ap (λ v. place_token p (string s) v k) (h refl)
same_token p (number s) a b k h = refl
same_token p (boolean v) a b k h = refl
same_token p null a b k h = refl
same_token p bad a b k h = refl

same_place : (l : Last) (a b : Bool) → (is_string l ≡ true → a ≡ b) → place_by l a ≡ place_by l b
same_place last.Opening a b h = refl
same_place last.Comma a b h = refl
same_place last.Value a b h = refl
same_place last.String a b h = ap (place_by last.String) (h refl)

counted : (k : ℕ) → nat_lt 0 (suc k) ≡ true
counted k = lt-ltb 0 (suc k) (omega arith)

or_counted : (may : Bool) (k : ℕ) → (may || nat_lt 0 (suc k)) ≡ true
or_counted true k = refl
or_counted false k = counted k

module _ (m : lex.Mode) (x : ℕ) (s : List ℕ) (n : Mode) (more : List Token) where
  abbrev At : Bool → Start → Last → List Token → Type 0
  At may what l goods = Found may m l (x ∷ s) goods (seek_next (passed_start may what n l (length goods)) (λ v. seek may v s))

  abbrev Reads : Last → List Token → Type 0
  Reads l goods = read l (lex.lex m (x ∷ s)) ≡ goods ++ more

  abbrev Begins : Start → Type 0
  Begins what = Begun what (lex_byte m (class x) x s) (mode_of n)

  as_begun : (a : Lexeme) → ((k : lex.Mode → List Lexeme) → lex_byte m (class x) x s k ≡ a ∷ k (mode_of n)) → lex.lex m (x ∷ s) ≡ a ∷ lex.lex (mode_of n) s
  unfolding lex.lex
  as_begun a f = f (λ next. lex.lex next s)

  nothing_at : (may : Bool) (l : Last) (goods : List Token) → Begins start.Nothing → AreGood goods → Reads l goods → Apart may l goods → FoundBehind may n s more → At may start.Nothing l goods
  unfolding lex.lex
  nothing_at may l goods f good e apart ih = blank may m l x s (mode_of n) goods _ f (ih l goods good (sym (ap (read l) (f (λ next. lex.lex next s))) ∙ e) apart)

  comma_passes : (may : Bool) (l : Last) (goods : List Token) → passed_start may start.Comma n l (length goods) ≡ Some (walk n last.Comma (length goods))
      → ((ls : List Lexeme) → read l (comma ∷ ls) ≡ read last.Comma ls) → Begins start.Comma → AreGood goods → Reads l goods → Apart may last.Comma goods → FoundBehind may n s more
      → At may start.Comma l goods
  comma_passes may l goods is h f good e apart ih =
      subst (λ o. Found may m l (x ∷ s) goods (seek_next o (λ v. seek may v s))) (sym is)
      (passes may m l last.Comma x s (mode_of n) comma [] goods _ f (λ ls same. h ls)
      (ih last.Comma goods good (sym (h (lex.lex (mode_of n) s)) ∙ sym (ap (read l) (as_begun comma f)) ∙ e) apart))

  comma_at : (may : Bool) (l : Last) (goods : List Token) → Begins start.Comma → AreGood goods → Reads l goods → Apart may l goods → FoundBehind may n s more → At may start.Comma l goods
  comma_at may last.Opening [] f good e apart ih = here may m last.Opening x s comma (mode_of n) f (λ is. refl) (apart_comma may last.Opening _ apart refl)
  comma_at may last.Comma [] f good e apart ih = here may m last.Comma x s comma (mode_of n) f (λ is. refl) (apart_comma may last.Comma _ apart refl)
  comma_at true last.Value [] f good e apart ih = comma_passes true last.Value [] refl comma_value f good e (λ lacks. absurd (true≢false lacks)) ih
  comma_at true last.String [] f good e apart ih = comma_passes true last.String [] refl comma_string f good e (λ lacks. absurd (true≢false lacks)) ih
  comma_at false last.Value [] f good e apart ih = here false m last.Value x s comma (mode_of n) f (λ is. refl) (λ same. absurd cc)
  comma_at false last.String [] f good e apart ih = here false m last.String x s comma (mode_of n) f (λ is. refl) (λ same. absurd cc)
  comma_at may last.Opening (g ∷ gs) f good e apart ih = absurd (no_bad g (gs ++ more) good.0 (sym (comma_opening _) ∙ sym (ap (read last.Opening) (as_begun comma f)) ∙ e))
  comma_at may last.Comma (g ∷ gs) f good e apart ih = absurd (no_bad g (gs ++ more) good.0 (sym (comma_comma _) ∙ sym (ap (read last.Comma) (as_begun comma f)) ∙ e))
  comma_at may last.Value (g ∷ gs) f good e apart ih =
      comma_passes may last.Value (g ∷ gs) (ap (λ b. cond b (Some (walk n last.Comma (length (g ∷ gs)))) None) (or_counted may (length gs))) comma_value f good e
      (λ lacks empty. absurd (none g gs (sym empty))) ih
  comma_at may last.String (g ∷ gs) f good e apart ih =
      comma_passes may last.String (g ∷ gs) (ap (λ b. cond b (Some (walk n last.Comma (length (g ∷ gs)))) None) (or_counted may (length gs))) comma_string f good e
      (λ lacks empty. absurd (none g gs (sym empty))) ih

  colon_here : (may : Bool) (l : Last) (goods : List Token) → is_string l ≡ false → Begins start.Colon → AreGood goods → Reads l goods → Apart may l goods → Found may m l (x ∷ s) goods 0
  colon_here may l [] lacks f good e apart =
      here may m l x s colon (mode_of n) f (λ is. absurd (false≢true (sym lacks ∙ is))) (apart_here may l _ apart refl)
  colon_here may l (g ∷ gs) lacks f good e apart = absurd (no_bad g (gs ++ more) good.0 (sym (colon_other l _ lacks) ∙ sym (ap (read l) (as_begun colon f)) ∙ e))

  colon_at : (may : Bool) (l : Last) (goods : List Token) → Begins start.Colon → AreGood goods → Reads l goods → Apart may l goods → FoundBehind may n s more → At may start.Colon l goods
  colon_at may last.Opening goods f good e apart ih = colon_here may last.Opening goods refl f good e apart
  colon_at may last.Comma goods f good e apart ih = colon_here may last.Comma goods refl f good e apart
  colon_at may last.Value goods f good e apart ih = colon_here may last.Value goods refl f good e apart
  colon_at may last.String goods f good e apart ih =
      passes may m last.String last.Opening x s (mode_of n) colon [] goods _ f (λ ls same. colon_string ls)
      (ih last.Opening goods good (sym (colon_string (lex.lex (mode_of n) s)) ∙ sym (ap (read last.String) (as_begun colon f)) ∙ e) (λ lacks empty same. absurd cc))

  token_at : (may : Bool) (this l : Last) (goods : List Token) → Begins (start.Token this) → AreGood goods → Reads l goods → Apart may l goods → FoundBehind may n s more
      → At may (start.Token this) l goods
  token_at may this l [] f good e apart ih = here may m l x s (token f.0) (mode_of n) f.1 (λ is. refl) (apart_here may l _ apart refl)
  token_at may this l (g ∷ gs) f good e apart ih =
      let t = f.0 in
      let rest = lex.lex (mode_of n) s in
      let p = place_by l false in
      let k : Place → List Token = λ next. punctuate next rest in
      let stands : place_token p t (begins_colon rest) k ≡ g ∷ (gs ++ more) = sym (token_read l t rest) ∙ sym (ap (read l) (as_begun (token t) f.1)) ∙ e in
      let on = goes_on p t (begins_colon rest) k g (gs ++ more) good.0 stands in
      let same : last_of t ≡ this = f.2 (good_token p t (begins_colon rest) k g (gs ++ more) good.0 stands) in
      let left : length (g ∷ gs) - 1 ≡ length gs = omega arith in
      let is : passed_start may (start.Token this) n l (length (g ∷ gs)) ≡ Some (walk n this (length gs)) =
      ap (λ b. cond b (Some (walk n this (length (g ∷ gs) - 1))) None) (counted (length gs)) ∙ ap (λ i. Some (walk n this i)) left in
      let h : (ls : List Lexeme) → (is_string this ≡ true → begins_colon ls ≡ begins_colon rest) → read l (token t ∷ ls) ≡ g ∷ read this ls =
      λ ls colons.
      let colons' : is_string (last_of t) ≡ true → begins_colon ls ≡ begins_colon rest = λ is. colons (ap is_string (sym same) ∙ is) in
      token_read l t ls ∙ same_token p t (begins_colon ls) (begins_colon rest) (λ next. punctuate next ls) colons' ∙ on.1 (λ next. punctuate next ls)
      ∙ ap (λ q. g ∷ punctuate q ls) (sym (same_place (last_of t) (begins_colon ls) (begins_colon rest) colons')) ∙ ap (λ v. g ∷ read v ls) same in
      subst (λ o. Found may m l (x ∷ s) (g ∷ gs) (seek_next o (λ v. seek may v s))) (sym is)
      (passes may m l this x s (mode_of n) (token t) (g ∷ []) gs _ f.1 h
      (ih this gs good.1 (sym (on.0 ∙ ap (λ v. read v rest) same)) (λ lacks empty comma. no_comma t (same ∙ comma))))

  by_start : (may : Bool) (what : Start) (l : Last) (goods : List Token) → Begins what → AreGood goods → Reads l goods → Apart may l goods → FoundBehind may n s more → At may what l goods
  by_start may start.Nothing l goods f good e apart ih = nothing_at may l goods f good e apart ih
  by_start may start.Comma l goods f good e apart ih = comma_at may l goods f good e apart ih
  by_start may start.Colon l goods f good e apart ih = colon_at may l goods f good e apart ih
  by_start may (start.Token this) l goods f good e apart ih = token_at may this l goods f good e apart ih

nothing_good : (l : Last) (g : Token) (ts : List Token) → is_good g ≡ true → read l [] ≡ g ∷ ts → ⊥
unfolding punctuate
nothing_good last.Opening g ts good e = none g ts e
nothing_good last.Comma g ts good e = no_bad g ts good e
nothing_good last.Value g ts good e = none g ts e
nothing_good last.String g ts good e = none g ts e

ends : (may : Bool) (m : lex.Mode) (l : Last) (goods more : List Token) → AreGood goods → read l (lex.lex m []) ≡ goods ++ more → Apart may l goods → Found may m l [] goods 0
unfolding lex.lex lexemes_in
ends may m l (g ∷ gs) more good e apart = absurd (nothing_good l g (gs ++ more) good.0 e)
ends may m l [] more good e apart = record {
  rest = [];
  within = omega arith;
  lexemes = refl;
  begins = refl;
  leaving = place_by l false;
  leaves = λ ls h. ap (λ b. punctuate (place_by l b) ls) h;
  colon = λ ls h is. h;
  all = refl;
  separated = apart_here may l [] apart refl;
}

found : (may : Bool) (s : List ℕ) (m : Mode) (more : List Token) → FoundBehind may m s more
unfolding seek
found may [] m more l goods good e apart = ends may (mode_of m) l goods more good e apart
found may (x ∷ s) m more l goods good e apart =
    by_start (mode_of m) x s (mode_behind m (to_class (class x))) more may (start_in m (to_class (class x)) x) l goods (by_class m (class x) x s) good e apart
    (found may s (mode_behind m (to_class (class x))) more)

-- what stands before the place of the token behind others, and what begins there
pub found_behind : (may : Bool) (s : List ℕ) (goods more : List Token) (n : ℕ) → AreGood goods → length goods ≡ n → lex.tokens s ≡ goods ++ more
    → Found may lex.between last.Opening s goods (seek may (first_walk n) s)
found_behind may s goods more n good counts e =
    subst (λ i. Found may lex.between last.Opening s goods (seek may (first_walk i) s)) counts
    (found may s mode.Between more last.Opening goods good e (λ lacks empty comma. absurd cc))

-- ---- the loop

-- a byte is passed
pub seek_some : (may : Bool) (w v : Walk) (s : List ℕ) (i x : ℕ) → passed may w x ≡ Some v → i < length s → get_or s i 0 ≡ x
    → (i + 1) + seek may v (drop (i + 1) s) ≡ i + seek may w (drop i s)
unfolding seek
seek_some may w v s i x e h is =
    let next : passed may w (get_or s i 0) ≡ Some v = ap (passed may w) is ∙ e in
    let one : i + 1 ≡ suc i = omega arith in
    let more : suc i + seek may v (drop (suc i) s) ≡ i + suc (seek may v (drop (suc i) s)) = omega arith in
    ap (λ j. j + seek may v (drop j s)) one ∙ more ∙ sym (ap (λ u. i + seek may w u) (drop-cons s i 0 h) ∙ ap (λ o. i + seek_next o (λ u. seek may u (drop (suc i) s))) next)

-- none is
pub seek_none : (may : Bool) (w : Walk) (s : List ℕ) (i x : ℕ) → passed may w x ≡ None → i < length s → get_or s i 0 ≡ x → i + seek may w (drop i s) ≡ i
unfolding seek
seek_none may w s i x e h is =
    let next : passed may w (get_or s i 0) ≡ None = ap (passed may w) is ∙ e in
    let same : i + 0 ≡ i = omega arith in
    ap (λ u. i + seek may w u) (drop-cons s i 0 h) ∙ ap (λ o. i + seek_next o (λ u. seek may u (drop (suc i) s))) next ∙ same

pub seek_all : (may : Bool) (w : Walk) (s : List ℕ) (i : ℕ) → length s ≤ i → i + seek may w (drop i s) ≡ i
unfolding seek
seek_all may w s i h = let same : i + 0 ≡ i = omega arith in ap (λ u. i + seek may w u) (drop_all i s h) ∙ same
