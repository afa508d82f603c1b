-- The result of reading a text.
use Rattle.std.specs.Prelude.{◌≡◌, ◌⊎◌, ℕ, Bool, List, Result, Ok, Err, IsErrAnd}
use Rattle.std.specs.Str.{IsUtf8, IsValidUpTo}
use Rattle.ipld_tree.specs.Tree.{Tree}
use Rattle.ipld_tree.specs.TreeOf.{tree_of}
use Rattle.ipld_tree.specs.declared.ipld.Ipld.{Ipld}
use Rattle.ipld_tree.specs.declared.limits.Limits.{Limits}
use Rattle.json.specs.Lex.{tokens}
use Rattle.json.specs.Token.{Token}
use Rattle.dag_json.specs.ReadMachine.{read_tokens}
use Rattle.dag_json.specs.declared.read_error.ReadError.{ReadError}
use Rattle.dag_json.specs.declared.read_error.ReadErrorKind.{ReadErrorKind}
use Rattle.dag_json.specs.declared.read_error.ReadErrorKind.TheVariants.{Memory, Utf8}

-- True if the result of reading tokens is that of `read_tokens`, or an allocation failed.
abbrev pub Reads : Bool → Limits → List Token → Result Ipld ReadError → Type 0
Reads floats limits ts (Ok v) = read_tokens floats limits ts ≡ Ok (tree_of v)
Reads floats limits ts (Err e) = (e.kind ≡ Memory) ⊎ (read_tokens floats limits ts ≡ Err e.kind)

-- True if the result of reading a text is that of `read_tokens` for its tokens, or an allocation
-- failed.
abbrev pub ReadsText : Bool → Limits → List ℕ → Result Ipld ReadError → Type 0
ReadsText floats limits s r = Reads floats limits (tokens s) r

-- True if the result of reading bytes is that of reading their text, if they are UTF-8. Otherwise
-- it is the error that they are not UTF-8, with the offset.
abbrev pub ReadsBytes : Bool → Limits → List ℕ → Result Ipld ReadError → Type 0
ReadsBytes floats limits s r = (IsUtf8 s × Reads floats limits (tokens s) r) ⊎ ((IsUtf8 s → ⊥) × IsErrAnd r (λ e. (e.kind ≡ Utf8) × IsValidUpTo s e.offset))

-- True if the result is the value of the expected tree, or the expected error, or if an allocation
-- failed.
abbrev pub Makes : Result Tree ReadErrorKind → Result Ipld ReadErrorKind → Type 0
Makes expected (Ok v) = expected ≡ Ok (tree_of v)
Makes expected (Err e) = (e ≡ Memory) ⊎ (expected ≡ Err e)

-- True if `P` is true of the value that is returned, or an allocation failed.
abbrev pub UnlessMemory : Result Ipld ReadError → (Ipld → Type 0) → Type 0
UnlessMemory (Ok v) P = P v
UnlessMemory (Err e) P = e.kind ≡ Memory
