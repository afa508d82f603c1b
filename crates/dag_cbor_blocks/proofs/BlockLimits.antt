-- The limits that a block passes are those that its tree passes.
use Rattle.std.proofs.Common.{◌≡◌, inl, inr, ℕ, List, Some, None, sym, ap, ◌∙◌}
use Rattle.ipld_tree.specs.Limits.{Within}
use Rattle.ipld_tree.specs.Tree.{Tree}
use Rattle.ipld_tree.specs.declared.limits.Limits.{Limits}
use Rattle.ipld_tokens.specs.ReadMachine as reading
use Rattle.ipld_tokens.specs.ReadMachine.{done, run}
use Rattle.ipld_tokens.proofs.TreeEnds.{reads_item}
use Rattle.ipld_tokens.proofs.Verdicts.{LinkLaws, link_laws}
use Rattle.dag_cbor_format.specs.declared.error.CborError.{CborError}
use Rattle.dag_cbor_format.specs.declared.error.CborError.TheVariants.{Memory}
use Rattle.dag_cbor_format.specs.Encoding.{EncodesTree}
use Rattle.dag_cbor_format.specs.FirstError.{first_error}
use Rattle.dag_cbor_format.specs.Reading.{of_block}
use Rattle.dag_cbor_format.proofs.Complete.{over_block}
use Rattle.dag_cbor_format.proofs.ErrorLaws.{error_or_tree}
use Rattle.dag_cbor_format.proofs.TreeOfBlock.{encoded_once}
use Rattle.dag_cbor_blocks.specs.Counting.{excess_of_block}
use Rattle.dag_cbor_format.proofs.CidLaws.{cid_laws}
use Rattle.dag_cbor_blocks.specs.Within.{Stops, IsLimit}
use Rattle.dag_cbor_blocks.specs.declared.block_error.BlockErrorKind.{BlockErrorKind}
use Rattle.dag_cbor_blocks.specs.declared.block_error.BlockErrorKind.TheVariants.{Cbor, TooDeep, TooMany}
use Rattle.dag_cbor_blocks.proofs.Counting.{tree_allowed, tree_within}

laws : LinkLaws 64
laws = link_laws 64 cid_laws.reads cid_laws.encodes cid_laws.valid cid_laws.once

pub block_run : (block : List ℕ) (t : Tree) → EncodesTree t block → run reading.start (of_block block).tokens ≡ done t
block_run block t (i, encodes, is) = ap (run reading.start) (over_block cid_laws i t block encodes is).0 ∙ reads_item laws i t is

module _ (limits : Limits) (block : List ℕ) (t : Tree) (encodes : EncodesTree t block) where
  pub none_passed : Within limits t → excess_of_block limits block ≡ None
  unfolding excess_of_block
  none_passed within = tree_allowed limits (of_block block).tokens t (block_run block t encodes) within

  pub block_within : excess_of_block limits block ≡ None → Within limits t
  unfolding excess_of_block
  block_within none = tree_within limits (of_block block).tokens t (block_run block t encodes) none

  no_first : (error : CborError) → first_error block ≡ Some error → ⊥
  unfolding first_error
  no_first error e = error_or_tree cid_laws block error e t encodes

  pub only_memory : Within limits t → (kind : BlockErrorKind) → Stops limits block kind → kind ≡ Cbor Memory
  only_memory within TooDeep stops = absurd (let none = none_passed within in cc)
  only_memory within TooMany stops = absurd (let none = none_passed within in cc)
  only_memory within (Cbor error) (inl memory) = ap Cbor memory
  only_memory within (Cbor error) (inr e) = absurd (no_first error e.0)

  pub limit_or_memory : (kind : BlockErrorKind) → Stops limits block kind → IsLimit kind
  limit_or_memory TooDeep stops = tt
  limit_or_memory TooMany stops = tt
  limit_or_memory (Cbor error) (inl memory) = memory
  limit_or_memory (Cbor error) (inr e) = absurd (no_first error e.0)

  pub not_beyond : (v : Tree) → EncodesTree v block → Within limits v → Within limits t
  not_beyond v again within = rw (sym (encoded_once cid_laws v t block again encodes)) within
