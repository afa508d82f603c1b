-- The tree of a block, and its errors, from what a tree builder comes to.
use Rattle.std.proofs.Common.{◌≡◌, ◌⊎◌, inl, inr, ℕ, true, false, List, [], Option, Some, None, option_map, sym, ap, subst, ◌∙◌}
use Rattle.ipld_tree.specs.Tree.{Tree}
use Rattle.ipld_tree.specs.TreeOf.{tree_of}
use Rattle.ipld_tree.specs.declared.ipld.Ipld.{Ipld}
use Rattle.ipld_tokens.specs.Token.{TokenModel}
use Rattle.ipld_tokens.specs.ReadMachine.{start}
use Rattle.ipld_tokens.proofs.Verdicts.{LinkLaws, link_laws}
use Rattle.ipld_tokens.proofs.TreeEnds.{reads_item}
use Rattle.dag_cbor_format.specs.declared.error.CborError.{CborError}
use Rattle.dag_cbor_format.specs.declared.error.CborError.TheVariants.{Memory}
use Rattle.dag_cbor_format.specs.Encoding.{EncodesTree}
use Rattle.dag_cbor_format.specs.ErrorKinds.{lies_in_bytes}
use Rattle.dag_cbor_format.specs.FirstError.{first_error}
use Rattle.dag_cbor_format.specs.Reading.{of_block}
use Rattle.dag_cbor_format.proofs.Complete.{over_block}
use Rattle.dag_cbor_format.proofs.ErrorLaws.{error_lies, error_or_tree}
use Rattle.dag_cbor_format.proofs.Sound.{encodes_tree}
use Rattle.dag_cbor_format.proofs.TreeOfBlock.{encoded_once}
use Rattle.dag_cbor.specs.Building.{tree_found, tree_after, tree_answer}
use Rattle.dag_cbor_format.proofs.CidLaws.{cid_laws}
use Rattle.dag_cbor.specs.declared.tree.TreeBuilder.{TreeBuilder}

laws : LinkLaws 64
laws = link_laws 64 cid_laws.reads cid_laws.encodes cid_laws.valid cid_laws.once

-- the tokens of a block without an error complete the tree that it encodes
pub whole_block : (block : List ℕ) → (of_block block).error ≡ None → (t : Tree) × EncodesTree t block × (tree_after start (of_block block).tokens ≡ Some t)
whole_block block e =
    let s = encodes_tree cid_laws block e in
    let all = over_block cid_laws s.1.0 s.0 block s.1.1 s.1.2 in
    (s.0, s.1, ap (tree_after start) all.0 ∙ ap tree_found (reads_item laws s.1.0 s.0 s.1.2))

module _ (block : List ℕ) (old new : TreeBuilder) (from_start : (ts : List TokenModel) → tree_answer old ts ≡ tree_after start ts)
    (whole : ((of_block block).error ≡ None) × (tree_answer new [] ≡ tree_answer old (of_block block).tokens)) where
  answered : (found : Option Ipld) → option_map tree_of found ≡ tree_answer new [] → (t : Tree) × EncodesTree t block × (option_map tree_of found ≡ Some t)
  answered found e =
      let w = whole_block block whole.0 in
      (w.0, w.1, e ∙ whole.1 ∙ from_start (of_block block).tokens ∙ w.2)

  -- the tree is that of the block
  pub decoded : (v : Ipld) → option_map tree_of (Some v) ≡ tree_answer new [] → EncodesTree (tree_of v) block
  decoded v e =
      let w = answered (Some v) e in
      let same : w.0 ≡ tree_of v = let x = w.2 in cc in
      subst (λ t. EncodesTree t block) same w.1

  pub decoded_once : (v : Ipld) → option_map tree_of (Some v) ≡ tree_answer new [] → (t : Tree) → EncodesTree t block → tree_of v ≡ t
  decoded_once v e t encodes = encoded_once cid_laws (tree_of v) t block (decoded v e) encodes

  -- there is a tree
  pub tree_there : option_map tree_of None ≡ tree_answer new [] → ⊥
  tree_there e = let w = answered None e in let x = w.2 in cc

module _ (block : List ℕ) (error : CborError) where
  pub failed_in_bytes : (error ≡ Memory) ⊎ ((of_block block).error ≡ Some error) → (error ≡ Memory) ⊎ (lies_in_bytes error ≡ true)
  unfolding first_error
  failed_in_bytes (inl memory) = inl memory
  failed_in_bytes (inr first) = inr (error_lies block error first)

  pub failed_memory : (error ≡ Memory) ⊎ ((of_block block).error ≡ Some error) → (t : Tree) → EncodesTree t block → error ≡ Memory
  unfolding first_error
  failed_memory (inl memory) t encodes = memory
  failed_memory (inr first) t encodes = absurd (error_or_tree cid_laws block error first t encodes)

  pub failed_first : (error ≡ Memory) ⊎ ((of_block block).error ≡ Some error) → lies_in_bytes error ≡ true → first_error block ≡ Some error
  unfolding first_error
  failed_first (inl memory) lies = absurd (let x : false ≡ true = sym (ap lies_in_bytes memory) ∙ lies in cc)
  failed_first (inr first) lies = first
