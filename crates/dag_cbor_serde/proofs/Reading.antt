-- What an error of reading says of the block.
use Rattle.std.proofs.Common.{◌≡◌, ◌⊎◌, ◌≤◌, inl, inr, ℕ, true, false, List, length, Option, Some, None, Result, Ok, Err, IfOk, IfErr, IfSome, IsSomeAnd, option_and_then, refl, sym, ap, subst, ◌∙◌}
use Rattle.std.specs.Prelude.{◌≢◌}
use Rattle.ipld_tree.specs.Tree.{Tree}
use Rattle.ipld_tree.specs.Limits.{Within}
use Rattle.ipld_tree.specs.declared.limits.Limits.{Limits}
use Rattle.ipld_ser.specs.Image.{RejectsAs}
use Rattle.ipld_ser.specs.declared.error.SerdeError.{SerdeError}
use Rattle.dag_cbor_format.proofs.ErrorLaws.{error_lies}
use Rattle.dag_cbor_format.specs.Block.{tree_of_block}
use Rattle.dag_cbor_format.specs.Encoding.{EncodesTree}
use Rattle.dag_cbor_format.specs.ErrorKinds.{lies_in_bytes}
use Rattle.dag_cbor_format.specs.declared.error.CborError.TheVariants as cbor
use Rattle.dag_cbor.specs.Lemmas.BlockLaws.{block_decodes_encoded}
use Rattle.dag_cbor_blocks.specs.Within.{Stops, StopsAt}
use Rattle.dag_cbor_blocks.specs.declared.block_error.BlockError.{BlockError}
use Rattle.dag_cbor_blocks.specs.declared.block_error.BlockErrorKind.TheVariants.{Cbor}
use Rattle.dag_cbor_serde.specs.declared.error.DecodeError.{DecodeError}
use Rattle.dag_cbor_serde.specs.declared.error.DecodeError.TheVariants.{Memory, Read}
use Rattle.dag_cbor_serde.specs.Errors.{error_of_read, error_of_block, error_of_kind}
use Rattle.dag_cbor_serde.specs.Read.{reads_block, BlockWithin, NotRead}
use Rattle.dag_cbor_serde.proofs.Kept.{ValueKept, value_kept, BlockKept, block_kept}

-- ---- the tree of the block

pub block_read : {C : Type 0} (reads : Tree → Option C) (block : List ℕ) (t : Tree) (c : C) → EncodesTree t block → reads t ≡ Some c → reads_block reads block ≡ Some c
block_read reads block t c encodes is = ap (option_and_then reads) ((block_decodes_encoded t block).1 encodes) ∙ is

pub block_within : (limits : Limits) (block : List ℕ) (t : Tree) → EncodesTree t block → Within limits t → BlockWithin limits block
block_within limits block t encodes within = subst (λ o. IsSomeAnd o (Within limits)) (sym ((block_decodes_encoded t block).1 encodes)) within

-- ---- the value is rejected

value_by_kind : {C : Type 0} (reads : Tree → Option C) (why : Tree → SerdeError → Type 0) (limits : Limits) (block : List ℕ) (t : Tree) (e : SerdeError) → tree_of_block block ≡ Some t → Within limits t
    → ValueKept e → RejectsAs (reads t) (why t) e → NotRead reads why limits block (error_of_read e)
value_by_kind reads why limits block t e is within (inl memory) rejected = subst (λ x. NotRead reads why limits block (error_of_read x)) (sym memory) tt
value_by_kind reads why limits block t e is within (inr kept) (inl memory) = absurd (kept.0 memory)
value_by_kind reads why limits block t e is within (inr kept) (inr none) = subst (NotRead reads why limits block) (sym kept.1)
    (subst (λ o. IsSomeAnd o (λ u. Within limits u × (reads u ≡ None) × why u e)) (sym is) (within, none.0, none.1), kept.0)

pub value_rejected : {C : Type 0} (reads : Tree → Option C) (why : Tree → SerdeError → Type 0) (limits : Limits) (block : List ℕ) (t : Tree) (e : SerdeError) → EncodesTree t block → Within limits t
    → RejectsAs (reads t) (why t) e → NotRead reads why limits block (error_of_read e)
value_rejected reads why limits block t e encodes within rejected = value_by_kind reads why limits block t e ((block_decodes_encoded t block).1 encodes) within (value_kept e) rejected

-- ---- the block is rejected

-- the reader's error is none of bytes
never_reader : (limits : Limits) (block : List ℕ) → Stops limits block (Cbor cbor.Read) → ⊥
never_reader limits block (inl memory) = absurd cc
never_reader limits block (inr first) = let lies : lies_in_bytes cbor.Read ≡ true = error_lies block cbor.Read first.0 in absurd cc

pub not_within : (limits : Limits) (block : List ℕ) (P : Type 0) → ((t : Tree) → EncodesTree t block → Within limits t → P) → BlockWithin limits block → P
not_within limits block P only within =
    elim (tree_of_block block) as (λ o. tree_of_block block ≡ o → IsSomeAnd o (Within limits) → P) [
      | None ↦ λ e w. absurd w
      | Some t ↦ λ e w. only t ((block_decodes_encoded t block).0 e) w
    ] refl within

block_by_kind : {C : Type 0} (reads : Tree → Option C) (why : Tree → SerdeError → Type 0) (limits : Limits) (block : List ℕ) (e : BlockError) → BlockKept e e.kind → Stops limits block e.kind
    → ((t : Tree) → EncodesTree t block → Within limits t → e.kind ≡ Cbor cbor.Memory) → StopsAt false limits block e.kind e.offset → e.offset ≤ length block → NotRead reads why limits block (error_of_block e)
block_by_kind reads why limits block e (inl memory) stops only place offset = subst (λ k. NotRead reads why limits block (error_of_kind e k)) (sym memory) tt
block_by_kind reads why limits block e (inr (inl read)) stops only place offset = subst (λ k. NotRead reads why limits block (error_of_kind e k)) (sym read) tt
block_by_kind reads why limits block e (inr (inr kept)) stops only place offset = subst (NotRead reads why limits block) (sym kept.1)
    ((λ within. kept.0 (not_within limits block (e.kind ≡ Cbor cbor.Memory) only within)), stops, place, kept.0, offset)

pub block_rejected : {C : Type 0} (reads : Tree → Option C) (why : Tree → SerdeError → Type 0) (limits : Limits) (block : List ℕ) (e : BlockError) → Stops limits block e.kind
    → ((t : Tree) → EncodesTree t block → Within limits t → e.kind ≡ Cbor cbor.Memory) → StopsAt false limits block e.kind e.offset → e.offset ≤ length block → NotRead reads why limits block (error_of_block e)
block_rejected reads why limits block e stops only place offset = block_by_kind reads why limits block e (block_kept e e.kind) stops only place offset

no_reader_of : (limits : Limits) (block : List ℕ) (e : BlockError) → BlockKept e e.kind → Stops limits block e.kind → error_of_block e ≢ Read
no_reader_of limits block e (inl memory) stops = subst (λ k. error_of_kind e k ≢ Read) (sym memory) (λ q. cc)
no_reader_of limits block e (inr (inl read)) stops = absurd (never_reader limits block (subst (Stops limits block) read stops))
no_reader_of limits block e (inr (inr kept)) stops = subst (λ x. x ≢ Read) (sym kept.1) (λ q. cc)

pub block_no_reader : (limits : Limits) (block : List ℕ) (e : BlockError) → Stops limits block e.kind → error_of_block e ≢ Read
block_no_reader limits block e stops = no_reader_of limits block e (block_kept e e.kind) stops

-- ---- what a reader gave

pub if_given : (o : Option (List ℕ)) (block : List ℕ) (P : List ℕ → Type 0) → IfSome o (λ b. b ≡ block) → P block → IfSome o P
if_given None block P e p = tt
if_given (Some b) block P e p = subst P (sym e) p

pub given_ok : {T : Type 0} (r : Result T DecodeError) (o : Option (List ℕ)) (block : List ℕ) (P : T → List ℕ → Type 0) → IfSome o (λ b. b ≡ block) → IfOk r (λ v. P v block) → IfOk r (λ v. IfSome o (P v))
given_ok (Ok v) o block P known p = if_given o block (P v) known p
given_ok (Err e) o block P known p = tt

pub given_err : {T : Type 0} (r : Result T DecodeError) (o : Option (List ℕ)) (block : List ℕ) (P : DecodeError → List ℕ → Type 0) → IfSome o (λ b. b ≡ block) → IfErr r (λ e. P e block)
    → IfErr r (λ e. (e ≡ Read) ⊎ IfSome o (P e))
given_err (Ok v) o block P known p = tt
given_err (Err e) o block P known p = inr (if_given o block (P e) known p)
