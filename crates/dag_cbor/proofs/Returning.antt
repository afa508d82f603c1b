-- What the codec returns for a block.
use Rattle.std.proofs.Common.{◌≡◌, ◌⊎◌, inl, inr, ℕ, true, false, List, Option, Some, None, Result, Ok, Err, IfOk, IfErr, IfSome, refl, sym, ap, subst, ◌∙◌}
use Rattle.std.specs.Prelude.{MatchOption}
use Rattle.ipld_tree.specs.Tree.{Tree}
use Rattle.ipld_tree.specs.TreeOf.{tree_of}
use Rattle.ipld_tree.specs.declared.ipld.Ipld.{Ipld}
use Rattle.ipld_codec.specs.Codec.{reading, MemoryOr}
use Rattle.dag_cbor_format.specs.declared.error.CborError.{CborError}
use Rattle.dag_cbor_format.specs.declared.error.CborError.TheVariants.{Memory}
use Rattle.dag_cbor_format.specs.ErrorKinds.{lies_in_bytes}
use Rattle.dag_cbor_format.specs.Encoding.{EncodesTree}
use Rattle.dag_cbor_format.specs.Block.{tree_of_block}
use Rattle.dag_cbor_blocks.specs.Decoded.{UnlessMemory}
use Rattle.dag_cbor.specs.CodecErrors.{cbor_failure}
use Rattle.dag_cbor.specs.Lemmas.BlockLaws.{block_decodes_encoded}
use Rattle.dag_cbor.proofs.Found.{in_bytes_is_no_failure}

reported : (f : CborError) (P : Type 0) → (f ≡ Memory) ⊎ (lies_in_bytes f ≡ true) → (lies_in_bytes f ≡ true → P) → MatchOption (cbor_failure f) P (MemoryOr reading)
reported f P (inl e) p = subst (λ x. MatchOption (cbor_failure x) P (MemoryOr reading)) (sym e) (inl refl)
reported f P (inr e) p = subst (λ o. MatchOption o P (MemoryOr reading)) (sym (in_bytes_is_no_failure f e)) (p e)

no_tree : (block : List ℕ) (f : CborError) → ((t : Tree) → EncodesTree t block → f ≡ Memory) → lies_in_bytes f ≡ true → tree_of_block block ≡ None
no_tree block f only lies =
    elim (tree_of_block block) as (λ o. tree_of_block block ≡ o → o ≡ None) [
      | None ↦ λ e. refl
      | Some t ↦ λ e. absurd (
          let x : false ≡ true = ap lies_in_bytes (sym (only t ((block_decodes_encoded t block).0 e))) ∙ lies in cc)
    ] refl

pub slice_decoded : (r : Result Ipld CborError) (block : List ℕ) → IfOk r (λ v. EncodesTree (tree_of v) block) → IfOk r (λ v. tree_of_block block ≡ Some (tree_of v))
slice_decoded (Ok v) block encodes = (block_decodes_encoded (tree_of v) block).1 encodes
slice_decoded (Err f) block encodes = tt

pub slice_rejected : (r : Result Ipld CborError) (block : List ℕ) → IfErr r (λ f. (f ≡ Memory) ⊎ (lies_in_bytes f ≡ true))
    → ((t : Tree) → EncodesTree t block → UnlessMemory r (λ v. tree_of v ≡ t)) → IfErr r (λ f. MatchOption (cbor_failure f) (tree_of_block block ≡ None) (MemoryOr reading))
slice_rejected (Ok v) block error only = tt
slice_rejected (Err f) block error only = reported f (tree_of_block block ≡ None) error (no_tree block f only)

if_known : (o : Option (List ℕ)) (block : List ℕ) (P : List ℕ → Type 0) → IfSome o (λ b. b ≡ block) → P block → IfSome o P
if_known None block P e p = tt
if_known (Some b) block P e p = subst P (sym e) p

pub reader_decoded : {E : Type 0} (r : Result Ipld E) (o : Option (List ℕ)) (block : List ℕ) → IfSome o (λ b. b ≡ block) → IfOk r (λ v. EncodesTree (tree_of v) block)
    → IfOk r (λ v. IfSome o (λ b. tree_of_block b ≡ Some (tree_of v)))
reader_decoded (Ok v) o block known encodes = if_known o block (λ b. tree_of_block b ≡ Some (tree_of v)) known (slice_decoded (Ok v) block encodes)
reader_decoded (Err f) o block known encodes = tt

pub reader_rejected : (r : Result Ipld CborError) (o : Option (List ℕ)) (block : List ℕ) → IfSome o (λ b. b ≡ block) → IfErr r (λ f. (f ≡ Memory) ⊎ (lies_in_bytes f ≡ true))
    → ((t : Tree) → EncodesTree t block → UnlessMemory r (λ v. tree_of v ≡ t))
    → IfErr r (λ f. MatchOption (cbor_failure f) (IfSome o (λ b. tree_of_block b ≡ None)) (MemoryOr reading))
reader_rejected (Ok v) o block known error only = tt
reader_rejected (Err f) o block known error only =
    reported f (IfSome o (λ b. tree_of_block b ≡ None)) error (λ lies. if_known o block (λ b. tree_of_block b ≡ None) known (no_tree block f only lies))
