-- A text has no more tokens than bytes, and one.
use Rattle.std.proofs.Common.{◌≤◌, ℕ, suc, Bool, true, false, List, [], ◌∷◌, length, arith}
use Rattle.json.specs.Token.{Token, begin_object, end_object, begin_array, end_array, key, string, number, boolean, null, bad}
use Rattle.json.specs.Lex.{Lexeme, token, comma, colon, Class, quote, backslash, operator, space, other, class, Mode, between, in_word, in_string, in_escape, lex_byte, lex, Place, fresh, after_value, after_comma, after_key, begins_colon, if_allowed, place_token, punctuate, tokens}

length_byte : (m : Mode) (c : Class) (x : ℕ) (xs : List ℕ) (k : Mode → List Lexeme) (n : ℕ) → ((next : Mode) → length (k next) ≤ n) → length (lex_byte m c x xs k) ≤ suc n
length_byte between quote x xs k n h = let few = h in_string in omega arith
length_byte between backslash x xs k n h = let few = h in_word in omega arith
length_byte between operator x xs k n h = let few = h between in omega arith
length_byte between space x xs k n h = let few = h between in omega arith
length_byte between other x xs k n h = let few = h in_word in omega arith
length_byte in_word quote x xs k n h = let few = h in_word in omega arith
length_byte in_word backslash x xs k n h = let few = h in_word in omega arith
length_byte in_word operator x xs k n h = let few = h between in omega arith
length_byte in_word space x xs k n h = let few = h between in omega arith
length_byte in_word other x xs k n h = let few = h in_word in omega arith
length_byte in_string quote x xs k n h = let few = h between in omega arith
length_byte in_string backslash x xs k n h = let few = h in_escape in omega arith
length_byte in_string operator x xs k n h = let few = h in_string in omega arith
length_byte in_string space x xs k n h = let few = h in_string in omega arith
length_byte in_string other x xs k n h = let few = h in_string in omega arith
length_byte in_escape c x xs k n h = let few = h in_string in omega arith

length_lex : (m : Mode) (xs : List ℕ) → length (lex m xs) ≤ length xs
unfolding lex
length_lex m [] = omega arith
length_lex m (x ∷ xs) = length_byte m (class x) x xs (λ next. lex next xs) (length xs) (λ next. length_lex next xs)

length_allowed : (b : Bool) (t : Token) (k : Place → List Token) (next : Place) (n : ℕ) → ((p : Place) → length (k p) ≤ suc n) → length (if_allowed b t k next) ≤ suc (suc n)
length_allowed true t k next n h = let few = h next in omega arith
length_allowed false t k next n h = omega arith

length_place : (p : Place) (t : Token) (b : Bool) (k : Place → List Token) (n : ℕ) → ((next : Place) → length (k next) ≤ suc n) → length (place_token p t b k) ≤ suc (suc n)
length_place p begin_object b k n h = length_allowed _ begin_object k fresh n h
length_place p end_object b k n h = length_allowed _ end_object k after_value n h
length_place p begin_array b k n h = length_allowed _ begin_array k fresh n h
length_place p end_array b k n h = length_allowed _ end_array k after_value n h
length_place p (key s) b k n h = omega arith
length_place p (string s) true k n h = length_allowed _ (key s) k after_key n h
length_place p (string s) false k n h = length_allowed _ (string s) k after_value n h
length_place p (number s) b k n h = length_allowed _ (number s) k after_value n h
length_place p (boolean x) b k n h = length_allowed _ (boolean x) k after_value n h
length_place p null b k n h = length_allowed _ null k after_value n h
length_place p bad b k n h = omega arith

length_punctuate : (p : Place) (ls : List Lexeme) → length (punctuate p ls) ≤ suc (length ls)
unfolding punctuate
length_punctuate fresh [] = omega arith
length_punctuate fresh (token t ∷ ls) = length_place fresh t (begins_colon ls) (λ next. punctuate next ls) (length ls) (λ next. length_punctuate next ls)
length_punctuate fresh (comma ∷ ls) = omega arith
length_punctuate fresh (colon ∷ ls) = omega arith
length_punctuate after_value [] = omega arith
length_punctuate after_value (token t ∷ ls) = length_place after_value t (begins_colon ls) (λ next. punctuate next ls) (length ls) (λ next. length_punctuate next ls)
length_punctuate after_value (comma ∷ ls) = let few = length_punctuate after_comma ls in omega arith
length_punctuate after_value (colon ∷ ls) = omega arith
length_punctuate after_comma [] = omega arith
length_punctuate after_comma (token t ∷ ls) = length_place after_comma t (begins_colon ls) (λ next. punctuate next ls) (length ls) (λ next. length_punctuate next ls)
length_punctuate after_comma (comma ∷ ls) = omega arith
length_punctuate after_comma (colon ∷ ls) = omega arith
length_punctuate after_key [] = omega arith
length_punctuate after_key (token t ∷ ls) = length_place after_key t (begins_colon ls) (λ next. punctuate next ls) (length ls) (λ next. length_punctuate next ls)
length_punctuate after_key (comma ∷ ls) = omega arith
length_punctuate after_key (colon ∷ ls) = let few = length_punctuate fresh ls in omega arith

pub length_tokens : (s : List ℕ) → length (tokens s) ≤ suc (length s)
length_tokens s = let lexemes = length_lex between s in let all = length_punctuate fresh (lex between s) in omega arith
