-- Where reading stops, and that its error says so.
use Rattle.std.proofs.Common.{◌≡◌, ◌+◌, ◌≤◌, ◌⊎◌, ℕ, suc, Bool, true, false, List, [], ◌∷◌, ◌++◌, length, Err, inl, inr, refl, sym, ap, subst, ◌∙◌, append_assoc, length-append, arith}
use Rattle.std.proofs.lemmas.List.{append_cancel_left}
use Rattle.std.specs.Str.{IsUtf8}
use Rattle.ipld_tree.specs.declared.limits.Limits.{Limits}
use Rattle.json.specs.Token.{Token, begin_object, end_object, begin_array, end_array, key, string, number, boolean, null, bad}
use Rattle.json.specs.Lex as lex
use Rattle.json.specs.Lex.{Lexeme, token, comma, colon, class, Place, fresh, after_value, after_comma, after_key, begins_colon, may_begin, may_close, if_allowed, place_token, punctuate, tokens}
use Rattle.dag_json.specs.Lexemes.{Separated}
use Rattle.dag_json.specs.Offset.{Stands, FailsAt, StopsAt, StopsBehind, Passed}
use Rattle.dag_json.specs.ReadMachine.{State, going, done, failed, start, step, run, outcome, read_tokens}
use Rattle.dag_json.specs.Seek.{mode_of, mode_behind, to_class, start_in, seek, first_walk}
use Rattle.dag_json.specs.declared.decode.Stop.{Stop}
use Rattle.dag_json.specs.declared.offset.Mode.{Mode}
use Rattle.dag_json.specs.declared.offset.Mode.TheVariants as mode
use Rattle.dag_json.specs.declared.offset.Start.{Start}
use Rattle.dag_json.specs.declared.offset.Start.TheVariants as start_at
use Rattle.dag_json.specs.declared.read_error.ReadErrorKind.{ReadErrorKind}
use Rattle.dag_json.specs.declared.read_error.ReadErrorKind.TheVariants.{Memory}
use Rattle.dag_json.specs.Lemmas.Reading.{run_failed}
use Rattle.dag_json.proofs.Seeking.{AreGood, Begun, by_class, found_behind}

-- ---- tokens that came to no error

run-append : (floats : Bool) (limits : Limits) (s : State) (ts us : List Token) → run floats limits s (ts ++ us) ≡ run floats limits (run floats limits s ts) us
run-append floats limits s [] us = refl
run-append floats limits s (t ∷ ts) us = run-append floats limits (step floats limits s t) ts us

pub next_passed : (floats : Bool) (limits : Limits) (ts : List Token) (n : ℕ) (s new : State) (t : Token) (old rest : List Token) → Passed floats limits ts n s old → old ≡ t ∷ rest → step floats limits s t ≡ new → Stands new
    → Passed floats limits ts (n + 1) new rest
next_passed floats limits ts n s new t old rest h is to stands =
    let counts = h.counts in
    record {
      passed = h.passed ++ t ∷ [];
      all = h.all ∙ ap (λ us. h.passed ++ us) is ∙ sym (append_assoc h.passed (t ∷ []) rest);
      counts = omega (arith, length-append h.passed (t ∷ []));
      state = run-append floats limits start h.passed (t ∷ []) ∙ ap (λ r. step floats limits r t) h.state ∙ to;
      stands = stands;
    }

-- ---- the error is that of the text

error_at : (floats : Bool) (limits : Limits) (passed rest : List Token) (kind : ReadErrorKind) → FailsAt floats limits (run floats limits start passed) rest kind → read_tokens floats limits (passed ++ rest) ≡ Err kind
error_at floats limits passed [] kind h = ap outcome (run-append floats limits start passed []) ∙ h
error_at floats limits passed (t ∷ rest) kind h =
    ap outcome (run-append floats limits start passed (t ∷ rest)) ∙ ap (λ s. outcome (run floats limits s rest)) h ∙ ap outcome (run_failed floats limits kind rest)

pub stopped_error : (floats : Bool) (limits : Limits) (ts : List Token) (stop : Stop) → (stop.kind ≡ Memory) ⊎ StopsBehind floats limits ts stop → (stop.kind ≡ Memory) ⊎ (read_tokens floats limits ts ≡ Err stop.kind)
stopped_error floats limits ts stop (inl memory) = inl memory
stopped_error floats limits ts stop (inr h) = inr (ap (read_tokens floats limits) h.all ∙ error_at floats limits h.passed h.rest stop.kind h.fails)

-- ---- the place

fails_on : (floats : Bool) (limits : Limits) (ts : List Token) (e : ReadErrorKind) → Stands (run floats limits (failed e) ts) → ⊥
fails_on floats limits [] e h = h
fails_on floats limits (t ∷ ts) e h = fails_on floats limits ts e h

bad_stands : (floats : Bool) (limits : Limits) (s : State) (ts : List Token) → Stands (run floats limits (step floats limits s bad) ts) → ⊥
bad_stands floats limits (going ls d n) ts h = fails_on floats limits ts _ h
bad_stands floats limits (done t) ts h = fails_on floats limits ts _ h
bad_stands floats limits (failed e) ts h = fails_on floats limits ts _ h

-- tokens that came to no error have none that is bad
stands_good : (floats : Bool) (limits : Limits) (ts : List Token) (s : State) → Stands (run floats limits s ts) → AreGood ts
stands_good floats limits [] s h = tt
stands_good floats limits (begin_object ∷ ts) s h = (refl, stands_good floats limits ts _ h)
stands_good floats limits (end_object ∷ ts) s h = (refl, stands_good floats limits ts _ h)
stands_good floats limits (begin_array ∷ ts) s h = (refl, stands_good floats limits ts _ h)
stands_good floats limits (end_array ∷ ts) s h = (refl, stands_good floats limits ts _ h)
stands_good floats limits (key k ∷ ts) s h = (refl, stands_good floats limits ts _ h)
stands_good floats limits (string t ∷ ts) s h = (refl, stands_good floats limits ts _ h)
stands_good floats limits (number t ∷ ts) s h = (refl, stands_good floats limits ts _ h)
stands_good floats limits (boolean b ∷ ts) s h = (refl, stands_good floats limits ts _ h)
stands_good floats limits (null ∷ ts) s h = (refl, stands_good floats limits ts _ h)
stands_good floats limits (bad ∷ ts) s h = absurd (bad_stands floats limits s ts h)

pub stops_at : (floats : Bool) (limits : Limits) (s : List ℕ) (stop : Stop) (place : ℕ) → place ≡ seek stop.unfinished (first_walk stop.taken) s → StopsBehind floats limits (tokens s) stop → StopsAt floats limits s place stop.kind
stops_at floats limits s stop place is h =
    let found = found_behind stop.unfinished s h.passed h.rest stop.taken (stands_good floats limits h.passed start h.stands) h.counts h.all in
    let rest : h.rest ≡ punctuate found.leaving found.rest = append_cancel_left h.passed h.rest (punctuate found.leaving found.rest) (sym h.all ∙ found.all) in
    subst (λ place. StopsAt floats limits s place stop.kind) (sym is) (record {
      rest = found.rest;
      lexemes = found.lexemes;
      begins = found.begins;
      passed = h.passed;
      leaving = found.leaving;
      leaves = found.leaves;
      stands = h.stands;
      all = found.all;
      fails = subst (λ ts. FailsAt floats limits (run floats limits start h.passed) ts stop.kind) rest h.fails;
      separated = subst (λ b. Separated b found.leaving found.rest) h.unfinished found.separated;
    })

-- the error of the text, and where
pub says_where : (floats : Bool) (limits : Limits) (s : List ℕ) (stop : Stop) (place : ℕ) → place ≡ seek stop.unfinished (first_walk stop.taken) s
    → (stop.kind ≡ Memory) ⊎ StopsBehind floats limits (tokens s) stop → (stop.kind ≡ Memory) ⊎ (IsUtf8 s → StopsAt floats limits s place stop.kind)
says_where floats limits s stop place is (inl memory) = inl memory
says_where floats limits s stop place is (inr h) = inr (λ utf8. stops_at floats limits s stop place is h)

-- ---- a text has hardly more tokens than bytes

lexed : (what : Start) (f : (lex.Mode → List Lexeme) → List Lexeme) (n : lex.Mode) (k : lex.Mode → List Lexeme) → Begun what f n → length (f k) ≤ suc (length (k n))
lexed start_at.Nothing f n k h = let e = ap length (h k) in omega arith
lexed start_at.Comma f n k h = let e = ap length (h k) in omega arith
lexed start_at.Colon f n k h = let e = ap length (h k) in omega arith
lexed (start_at.Token l) f n k h = let e = ap length (h.1 k) in omega arith

lexemes_within : (m : Mode) (s : List ℕ) → length (lex.lex (mode_of m) s) ≤ length s
unfolding lex.lex
lexemes_within m [] = omega arith
lexemes_within m (x ∷ s) =
    let one = lexed (start_in m (to_class (class x)) x) (lex.lex_byte (mode_of m) (class x) x s) (mode_of (mode_behind m (to_class (class x)))) (λ next. lex.lex next s) (by_class m (class x) x s) in
    let more = lexemes_within (mode_behind m (to_class (class x))) s in
    omega arith

allowed_within : (a : Bool) (t : Token) (k : Place → List Token) (next : Place) (n : ℕ) → length (k next) ≤ n → length (if_allowed a t k next) ≤ suc n
allowed_within true t k next n h = omega arith
allowed_within false t k next n h = omega arith

token_within : (p : Place) (t : Token) (b : Bool) (k : Place → List Token) (n : ℕ) → ((q : Place) → length (k q) ≤ n) → length (place_token p t b k) ≤ suc n
token_within p begin_object b k n h = allowed_within (may_begin p) begin_object k fresh n (h fresh)
token_within p end_object b k n h = allowed_within (may_close p) end_object k after_value n (h after_value)
token_within p begin_array b k n h = allowed_within (may_begin p) begin_array k fresh n (h fresh)
token_within p end_array b k n h = allowed_within (may_close p) end_array k after_value n (h after_value)
token_within p (key s) b k n h = omega arith
token_within p (string s) true k n h = allowed_within (may_begin p) (key s) k after_key n (h after_key)
token_within p (string s) false k n h = allowed_within (may_begin p) (string s) k after_value n (h after_value)
token_within p (number s) b k n h = allowed_within (may_begin p) (number s) k after_value n (h after_value)
token_within p (boolean v) b k n h = allowed_within (may_begin p) (boolean v) k after_value n (h after_value)
token_within p null b k n h = allowed_within (may_begin p) null k after_value n (h after_value)
token_within p bad b k n h = omega arith

punctuated_within : (ls : List Lexeme) (p : Place) → length (punctuate p ls) ≤ suc (length ls)
unfolding punctuate
punctuated_within [] fresh = omega arith
punctuated_within [] after_value = omega arith
punctuated_within [] after_comma = omega arith
punctuated_within [] after_key = omega arith
punctuated_within (token t ∷ ls) fresh = token_within fresh t (begins_colon ls) (λ next. punctuate next ls) (suc (length ls)) (punctuated_within ls)
punctuated_within (token t ∷ ls) after_value = token_within after_value t (begins_colon ls) (λ next. punctuate next ls) (suc (length ls)) (punctuated_within ls)
punctuated_within (token t ∷ ls) after_comma = token_within after_comma t (begins_colon ls) (λ next. punctuate next ls) (suc (length ls)) (punctuated_within ls)
punctuated_within (token t ∷ ls) after_key = token_within after_key t (begins_colon ls) (λ next. punctuate next ls) (suc (length ls)) (punctuated_within ls)
punctuated_within (comma ∷ ls) fresh = omega arith
punctuated_within (comma ∷ ls) after_value = let more = punctuated_within ls after_comma in omega arith
punctuated_within (comma ∷ ls) after_comma = omega arith
punctuated_within (comma ∷ ls) after_key = omega arith
punctuated_within (colon ∷ ls) fresh = omega arith
punctuated_within (colon ∷ ls) after_value = omega arith
punctuated_within (colon ∷ ls) after_comma = omega arith
punctuated_within (colon ∷ ls) after_key = let more = punctuated_within ls fresh in omega arith

pub tokens_within : (s : List ℕ) → length (tokens s) ≤ suc (length s)
tokens_within s =
    let a = lexemes_within mode.Between s in
    let b = punctuated_within (lex.lex lex.between s) fresh in
    omega arith
