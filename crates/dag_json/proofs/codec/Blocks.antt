-- Blocks that are read, and written.
use Rattle.std.proofs.Common.{◌≡◌, ◌⊎◌, inl, inr, ℕ, false, List, Option, Some, None, IfSome, MatchOption, option_and_then, Result, Ok, Err, IfOk, IfErr, refl, sym, ap, subst, ◌∙◌}
use Rattle.std.specs.Prelude.{if◌then◌else◌}
use Rattle.std.specs.Str.{IsUtf8}
use Rattle.ipld_codec.specs.Codec.{Failure, memory, MemoryOr, reading}
use Rattle.ipld_tree.specs.IsTree.{IsTree}
use Rattle.ipld_tree.specs.IsWhole.{IsWhole}
use Rattle.ipld_tree.specs.Lemmas.EqualLaws.{tree_decides}
use Rattle.ipld_tree.specs.Tree.{Tree}
use Rattle.ipld_tree.specs.TreeOf.{tree_of}
use Rattle.ipld_tree.specs.declared.ipld.Ipld.{Ipld}
use Rattle.dag_json.specs.Written.{written, IsReserved}
use Rattle.dag_json.specs.declared.read_error.ReadError.{ReadError}
use Rattle.dag_json.specs.declared.read_error.ReadErrorKind.TheVariants as error
use Rattle.dag_json.proofs.RoundTrip.{written_encodes}
use Rattle.dag_json.specs.Codec.{decoded, links_found, is_decoded, if_decoded, codec_text, codec_failure, IsBlockError, IsErrorOfText, IsTextError}
use Rattle.dag_json.specs.Lemmas.CodecLaws.{encoded_decodes}
use Rattle.dag_json.specs.declared.error.DagJsonError.{DagJsonError}
use Rattle.dag_json.specs.declared.error.DagJsonError.TheVariants.{Memory, Reserved}
use Rattle.dag_json.proofs.BlockErrors.{none_decoded, no_links_found}

-- what an error says of a block that isn't read
pub not_read : (s : List ℕ) (e : ReadError) (f : DagJsonError) → (e.kind ≡ error.Memory) ⊎ IsBlockError false s e
    → IsErrorOfText e f → (f ≡ Memory) ⊎ ((codec_failure f ≡ None) × (decoded s ≡ None))
not_read s e f h (inl gone) = inl gone.1
not_read s e f (inl none) (inr other) = absurd (other.0 none)
not_read s e f (inr h) (inr other) = inr (ap codec_failure other.1, none_decoded false s e h)

-- ---- a block is written

pub text_written : (t : Tree) (s : List ℕ) → IsTree t → IsWhole t → IsUtf8 s → written t ≡ Some s → codec_text t ≡ Some s
unfolding codec_text
text_written t s is whole utf8 w =
    ap (option_and_then (if_decoded t)) w
    ∙ ap (λ o. if is_decoded t o then Some s else None) (encoded_decodes false t s (written_encodes t s is whole utf8 w))
    ∙ ap (λ b. if b then Some s else None) ((tree_decides t t).1 refl)

pub no_text : (t : Tree) → written t ≡ None → codec_text t ≡ None
unfolding codec_text
no_text t w = ap (option_and_then (if_decoded t)) w

pub block_written : {A E : Type 0} (f : A → List ℕ) (r : Result A E) (t : Tree) → IsTree t → IsWhole t → IfOk r (λ x. IsUtf8 (f x)) → IfOk r (λ x. written t ≡ Some (f x))
    → IfOk r (λ x. codec_text t ≡ Some (f x))
block_written f (Ok x) t is whole utf8 w = text_written t (f x) is whole utf8 w
block_written f (Err e) t is whole utf8 w = tt

reserved_failure : (t : Tree) (f : DagJsonError) → IsReserved t f → codec_failure f ≡ None
reserved_failure t (Reserved place) h = refl
reserved_failure t _ h = absurd h

pub block_rejected : {A : Type 0} (r : Result A DagJsonError) (t : Tree) → IfErr r (λ f. (f ≡ Memory) ⊎ ((written t ≡ None) × IsReserved t f))
    → IfErr r (λ f. (f ≡ Memory) ⊎ ((codec_failure f ≡ None) × (codec_text t ≡ None)))
block_rejected (Ok x) t h = tt
block_rejected (Err f) t (inl m) = inl m
block_rejected (Err f) t (inr h) = inr (reserved_failure t f h.1, no_text t h.0)

-- ---- what an error says

pub reported : (f : DagJsonError) (end : Failure) (P Q : Type 0) → (f ≡ Memory) ⊎ ((codec_failure f ≡ None) × Q) → (Q → P) → MatchOption (codec_failure f) P (MemoryOr end)
reported f end P Q (inl m) h = subst (λ e. MatchOption (codec_failure e) P (MemoryOr end)) (sym m) (inl refl)
reported f end P Q (inr n) h = subst (λ o. MatchOption o P (MemoryOr end)) (sym n.0) (h n.1)

pub rejected : {A : Type 0} (r : Result A DagJsonError) (end : Failure) (Q : Type 0) → IfErr r (λ f. (f ≡ Memory) ⊎ ((codec_failure f ≡ None) × Q))
    → IfErr r (λ f. MatchOption (codec_failure f) Q (MemoryOr end))
rejected (Ok x) end Q h = tt
rejected (Err f) end Q h = reported f end Q Q h (λ q. q)

if_known : (o : Option (List ℕ)) (block : List ℕ) (P : List ℕ → Type 0) → IfSome o (λ b. b ≡ block) → P block → IfSome o P
if_known None block P known h = tt
if_known (Some b) block P known h = subst P (sym known) h

pub reader_decoded : {E : Type 0} (r : Result Ipld E) (o : Option (List ℕ)) (block : List ℕ) → IfSome o (λ b. b ≡ block) → IfOk r (λ v. decoded block ≡ Some (tree_of v))
    → IfOk r (λ v. IfSome o (λ b. decoded b ≡ Some (tree_of v)))
reader_decoded (Ok v) o block known h = if_known o block (λ b. decoded b ≡ Some (tree_of v)) known h
reader_decoded (Err f) o block known h = tt

pub reader_rejected : (r : Result Ipld DagJsonError) (o : Option (List ℕ)) (block : List ℕ) → IfSome o (λ b. b ≡ block)
    → IfErr r (λ f. (f ≡ Memory) ⊎ ((codec_failure f ≡ None) × (decoded block ≡ None))) → IfErr r (λ f. MatchOption (codec_failure f) (IfSome o (λ b. decoded b ≡ None)) (MemoryOr reading))
reader_rejected (Ok v) o block known h = tt
reader_rejected (Err f) o block known h =
    reported f reading (IfSome o (λ b. decoded b ≡ None)) (decoded block ≡ None) h (λ none. if_known o block (λ b. decoded b ≡ None) known none)

-- which error a text has
pub text_error : (s : List ℕ) (e : ReadError) (f : DagJsonError) → (e.kind ≡ error.Memory) ⊎ IsBlockError false s e
    → IsErrorOfText e f → (f ≡ Memory) ⊎ IsTextError s f
text_error s e f h (inl gone) = inl gone.1
text_error s e f (inl none) (inr other) = absurd (other.0 none)
text_error s e f (inr h) (inr other) = inr (subst (IsTextError s) (sym other.1) h)

-- why a block has no links
pub no_links : (s : List ℕ) (e : ReadError) (f : DagJsonError) → (e.kind ≡ error.Memory) ⊎ IsBlockError false s e
    → IsErrorOfText e f → MatchOption (codec_failure f) (links_found s ≡ None) (λ failure. failure ≡ memory)
no_links s e f h (inl gone) = subst (λ g. MatchOption (codec_failure g) (links_found s ≡ None) (λ failure. failure ≡ memory)) (sym gone.1) refl
no_links s e f (inl m) (inr other) = absurd (other.0 m)
no_links s e f (inr h) (inr other) =
    subst (λ g. MatchOption (codec_failure g) (links_found s ≡ None) (λ failure. failure ≡ memory)) (sym other.1) (no_links_found false s e h)
