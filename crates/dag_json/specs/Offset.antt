-- The place in a text at which reading stops: the start of the first token that is not possible
-- there.
use Rattle.std.specs.Prelude.{◌≡◌, ◌⊎◌, ℕ, ◌≤◌, Bool, true, false, List, [], ◌∷◌, ◌++◌, length, ⊤, Result, Ok, Err}
use Rattle.std.specs.Str.{IsUtf8}
use Rattle.ipld_tree.specs.TreeOf.{tree_of}
use Rattle.ipld_tree.specs.declared.ipld.Ipld.{Ipld}
use Rattle.ipld_tree.specs.declared.limits.Limits.{Limits}
use Rattle.json.specs.Token as json
use Rattle.json.specs.Lex.{Lexeme, between, lex, Place, punctuate, tokens}
use Rattle.dag_json.specs.Lexemes.{lexemes_in, BeginsAt, Leaves, Separated}
use Rattle.dag_json.specs.ReadMachine.{State, going, done, failed, start, step, run, outcome, read_tokens}
use Rattle.dag_json.specs.declared.decode.Stop.{Stop}
use Rattle.dag_json.specs.declared.read_error.ReadError.{ReadError}
use Rattle.dag_json.specs.declared.read_error.ReadErrorKind.{ReadErrorKind}
use Rattle.dag_json.specs.declared.read_error.ReadErrorKind.TheVariants.{Memory}

-- whether the value is unfinished: it is not complete, and no token was rejected
abbrev pub is_going : State → Bool
is_going (going ls d n) = true
is_going (done t) = false
is_going (failed e) = false

-- True if no token was rejected.
abbrev pub Stands : State → Type 0
Stands (going ls d n) = ⊤
Stands (done t) = ⊤
Stands (failed e) = ⊥

-- True if, in the state `s`, the next token is rejected with the error `kind`. Without another
-- token, it is true if the text can't end there, with this error. The first argument is whether
-- floats are read.
abbrev pub FailsAt : Bool → Limits → State → List json.Token → ReadErrorKind → Type 0
FailsAt floats limits s [] kind = outcome s ≡ Err kind
FailsAt floats limits s (t ∷ ts) kind = step floats limits s t ≡ failed kind

-- True if reading the text stops at the place, for this reason. A lexeme begins at the place, or
-- the text ends there. The lexemes before it are tokens that are not rejected, whatever follows.
-- The next token, or the end, is an error of this kind. A comma between items or members is passed.
pub record StopsAt (floats : Bool) (limits : Limits) (s : List ℕ) (place : ℕ) (kind : ReadErrorKind) : Type 0 where
  -- the lexemes from the place on, whose first begins there
  pub rest : List Lexeme
  pub lexemes : lex between s ≡ lexemes_in place between s ++ rest
  pub begins : BeginsAt between place s rest
  -- the tokens before the place, which are not rejected
  pub passed : List json.Token
  pub leaving : Place
  pub leaves : Leaves (lexemes_in place between s) passed leaving
  pub stands : Stands (run floats limits start passed)
  -- the error at the place
  pub all : tokens s ≡ passed ++ punctuate leaving rest
  pub fails : FailsAt floats limits (run floats limits start passed) (punctuate leaving rest) kind
  pub separated : Separated (is_going (run floats limits start passed)) leaving rest

-- True if the offset is at most the length of the text. If the text is UTF-8, reading also stops at
-- the offset, for the reason `e.kind`, unless an allocation failed.
abbrev pub SaysWhere : Bool → Limits → List ℕ → ReadError → Type 0
SaysWhere floats limits s e = (e.offset ≤ length s) × ((e.kind ≡ Memory) ⊎ (IsUtf8 s → StopsAt floats limits s e.offset e.kind))

-- True if reading the tokens stops after `stop.taken` of them, for the reason `stop.kind`.
-- `stop.unfinished` is whether the value is unfinished there.
pub record StopsBehind (floats : Bool) (limits : Limits) (ts : List json.Token) (stop : Stop) : Type 0 where
  pub passed : List json.Token
  pub rest : List json.Token
  pub all : ts ≡ passed ++ rest
  pub counts : length passed ≡ stop.taken
  pub stands : Stands (run floats limits start passed)
  pub fails : FailsAt floats limits (run floats limits start passed) rest stop.kind
  pub unfinished : stop.unfinished ≡ is_going (run floats limits start passed)

-- True if the result is the tree of the tokens, or reports the point at which reading them stops,
-- or if an allocation failed.
abbrev pub ReadsTokens : Bool → Limits → List json.Token → Result Ipld Stop → Type 0
ReadsTokens floats limits ts (Ok v) = read_tokens floats limits ts ≡ Ok (tree_of v)
ReadsTokens floats limits ts (Err stop) = (stop.kind ≡ Memory) ⊎ StopsBehind floats limits ts stop

-- True if the first `n` tokens lead to the state `s`, which is not an error, and `rest` are the
-- tokens after them.
pub record Passed (floats : Bool) (limits : Limits) (ts : List json.Token) (n : ℕ) (s : State) (rest : List json.Token) : Type 0 where
  pub passed : List json.Token
  pub all : ts ≡ passed ++ rest
  pub counts : length passed ≡ n
  pub state : run floats limits start passed ≡ s
  pub stands : Stands s
