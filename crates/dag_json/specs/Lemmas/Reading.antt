-- The result of reading a text, by the tree that the text encodes.
use Rattle.std.proofs.Common.{◌≡◌, ◌+◌, ◌⊎◌, ℕ, Bool, false, List, [], ◌∷◌, Result, Ok, Err, IfOk, inl, inr, refl, sym, ap, ◌∙◌, arith}
use Rattle.std.specs.Str.{IsUtf8}
use Rattle.ipld_tree.specs.Tree.{Tree}
use Rattle.ipld_tree.specs.TreeOf.{tree_of}
use Rattle.ipld_tree.specs.declared.ipld.Ipld.{Ipld}
use Rattle.ipld_tree.specs.declared.limits.Limits.{Limits}
use Rattle.json.specs.Lex.{tokens}
use Rattle.json.specs.Token.{Token}
use Rattle.json.specs.Tree.{depth}
use Rattle.dag_json.specs.Encodes.{EncodesTree, EncodesWithinIn, count}
use Rattle.dag_json.specs.ReadMachine.{State, going, done, failed, outcome, step, run, start, read_tokens}
use Rattle.dag_json.specs.ReadContract.{Reads, UnlessMemory}
use Rattle.dag_json.specs.declared.read_error.ReadError.{ReadError}
use Rattle.dag_json.specs.declared.read_error.ReadErrorKind.{ReadErrorKind}
use Rattle.dag_json.specs.declared.read_error.ReadErrorKind.TheVariants.{Memory}
use Rattle.dag_json.specs.Lemmas.Completing.{reads_whole}
use Rattle.dag_json.specs.Lemmas.Standing.{found}

pub ok_done : (s : State) (t : Tree) → outcome s ≡ Ok t → s ≡ done t
ok_done (going ls d n) t e = absurd cc
ok_done (done v) t e = ap done cc
ok_done (failed k) t e = absurd cc

-- If reading a text returns a tree, the text encodes it within the limits.
pub encodes_read : (floats : Bool) (limits : Limits) (s : List ℕ) (r : Result Ipld ReadError) → IsUtf8 s → Reads floats limits (tokens s) r → IfOk r (λ v. EncodesWithinIn floats limits (tree_of v) s)
encodes_read floats limits s (Ok v) utf8 h =
    let f = found floats limits (tokens s) (tree_of v) (ok_done (run floats limits start (tokens s)) (tree_of v) h) in
    record { tree = record { utf8 = utf8; json = f.0; is_json = f.1; encodes = f.2 }; within = f.3 }
encodes_read floats limits s (Err e) utf8 h = tt

pub whole_read : (floats : Bool) (limits : Limits) (t : Tree) (s : List ℕ) → EncodesWithinIn floats limits t s → read_tokens floats limits (tokens s) ≡ Ok t
whole_read floats limits t s e = ap (λ ts. outcome (run floats limits start ts)) e.tree.is_json ∙ ap outcome (reads_whole floats limits e.tree.json t e.tree.encodes e.within)

-- If a text encodes a tree within the limits, reading it returns the tree, unless an allocation
-- failed.
pub only_read : (floats : Bool) (limits : Limits) (s : List ℕ) (r : Result Ipld ReadError) → Reads floats limits (tokens s) r → (t : Tree) → EncodesWithinIn floats limits t s → UnlessMemory r (λ v. tree_of v ≡ t)
only_read floats limits s (Ok v) h t e = let same : ◌≡◌ {A = Result Tree ReadErrorKind} (Ok (tree_of v)) (Ok t) = sym h ∙ whole_read floats limits t s e in cc
only_read floats limits s (Err x) (inl memory) t e = memory
only_read floats limits s (Err x) (inr other) t e = absurd (let clash : ◌≡◌ {A = Result Tree ReadErrorKind} (Err x.kind) (Ok t) = sym other ∙ whole_read floats limits t s e in cc)

-- A text encodes at most one tree.
pub encoded_once : (t u : Tree) (s : List ℕ) → EncodesTree t s → EncodesTree u s → t ≡ u
encoded_once t u s e f =
    let limits : Limits = record { levels = depth e.json + depth f.json; values = count e.json + count f.json } in
    let same : ◌≡◌ {A = Result Tree ReadErrorKind} (Ok t) (Ok u) =
    sym (whole_read false limits t s (record { tree = e; within = record { levels = omega arith; values = omega arith } }))
    ∙ whole_read false limits u s (record { tree = f; within = record { levels = omega arith; values = omega arith } }) in
    cc

-- ---- the place at which reading stops

pub run_failed : (floats : Bool) (limits : Limits) (e : ReadErrorKind) (ts : List Token) → run floats limits (failed e) ts ≡ failed e
run_failed floats limits e [] = refl
run_failed floats limits e (t ∷ ts) = run_failed floats limits e ts

-- If the machine rejects the next token, reading all tokens results in the same error.
pub stopped : (floats : Bool) (limits : Limits) (s : State) (t : Token) (rest old first : List Token) (e : ReadErrorKind) → old ≡ t ∷ rest → run floats limits s old ≡ run floats limits start first
    → (e ≡ Memory) ⊎ (step floats limits s t ≡ failed e) → (e ≡ Memory) ⊎ (read_tokens floats limits first ≡ Err e)
stopped floats limits s t rest old first e is same (inl memory) = inl memory
stopped floats limits s t rest old first e is same (inr f) =
    inr (ap outcome (sym same ∙ ap (run floats limits s) is ∙ ap (λ x. run floats limits x rest) f ∙ run_failed floats limits e rest))
