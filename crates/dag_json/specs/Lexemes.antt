-- The lexemes before a place in a text, and the tokens that are possible after them.
use Rattle.std.specs.Prelude.{◌≡◌, ◌≢◌, ℕ, zero, suc, Bool, true, false, List, [], ◌∷◌, ◌++◌, length}
use Rattle.json.specs.Token as json
use Rattle.json.specs.Lex.{Lexeme, token, comma, colon, Mode, class, lex_byte, Place, fresh, after_value, after_comma, begins_colon, punctuate}

-- The lexemes of a text that begin in its first n bytes, read from the mode `m` on. They are the
-- six characters that structure the text, strings, numbers and words, valid or not (RFC 8259,
-- section 2, calls them tokens).
unfoldable pub lexemes_in : ℕ → Mode → List ℕ → List Lexeme
lexemes_in zero m s = []
lexemes_in (suc n) m [] = []
lexemes_in (suc n) m (x ∷ s) = lex_byte m (class x) x s (λ next. lexemes_in n next s)

-- True if the first of these lexemes begins at the place or, without lexemes, the text ends there.
abbrev pub BeginsAt : Mode → ℕ → List ℕ → List Lexeme → Type 0
BeginsAt m place s [] = place ≡ length s
BeginsAt m place s (l ∷ ls) = lexemes_in (suc place) m s ≡ lexemes_in place m s ++ l ∷ []

-- True if the lexemes `front` are the tokens `passed` and lead to the place `p`, whatever follows
-- except a colon. A colon after a string makes it a key, and is passed with it.
abbrev pub Leaves : List Lexeme → List json.Token → Place → Type 0
Leaves front passed p = (ls : List Lexeme) → begins_colon ls ≡ false → punctuate fresh (front ++ ls) ≡ passed ++ punctuate p ls

abbrev pub begins_comma : List Lexeme → Bool
begins_comma [] = false
begins_comma (token t ∷ ls) = false
begins_comma (comma ∷ ls) = true
begins_comma (colon ∷ ls) = false

-- True if commas are passed. If the value is unfinished, `rest` does not begin with a comma after
-- an item or a member. Otherwise no comma was passed after the value.
abbrev pub Separated : Bool → Place → List Lexeme → Type 0
Separated true p rest = p ≡ after_value → begins_comma rest ≡ false
Separated false p rest = p ≢ after_comma
