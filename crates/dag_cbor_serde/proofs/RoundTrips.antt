-- Values that round-trip through a block.
use Rattle.std.proofs.Common.{◌≡◌, ℕ, List, Option, Some, None, IsSome, option_and_then, refl, sym, ap, subst, ◌∙◌}
use Rattle.ipld_tree.specs.Tree.{Tree}
use Rattle.ipld_de.specs.Law.{RoundTrip}
use Rattle.dag_cbor_format.specs.Block.{tree_of_block}
use Rattle.dag_cbor.specs.Lemmas.BlockLaws.{block_decodes_encoded, block_writes_encoded}
use Rattle.dag_cbor_serde.specs.Read.{reads_block}
use Rattle.dag_cbor_serde.specs.Written.{block_of_image}

-- the block's tree is the image
pub image_in_block : (image : Option Tree) (block : List ℕ) → block_of_image image ≡ Some block → (t : Tree) × (image ≡ Some t) × (tree_of_block block ≡ Some t)
image_in_block None block is = absurd cc
image_in_block (Some t) block is = (t, refl, (block_decodes_encoded t block).1 (block_writes_encoded t block is))

module _ {V C : Type 0} (image : V → Option Tree) (contents : V → C) (reads : Tree → Option C) (plain : V → Type 0) (law : RoundTrip image contents reads plain) where
  pub comes_from : (v : V) (block : List ℕ) → block_of_image (image v) ≡ Some block → (t : Tree) × (image v ≡ Some t) × (reads_block reads block ≡ reads t)
  comes_from v block is = let p = image_in_block (image v) block is in (p.0, p.1, ap (option_and_then reads) p.2)

  pub written_reads : (v : V) (block : List ℕ) → block_of_image (image v) ≡ Some block → IsSome (reads_block reads block)
  written_reads v block is =
      let p = comes_from v block is in
      let b = law.back v p.0 p.1 in
      subst IsSome (sym (p.2 ∙ b.read)) refl

  pub same_image_back : (v w : V) (block : List ℕ) → block_of_image (image v) ≡ Some block → reads_block reads block ≡ Some (contents w) → image w ≡ image v
  same_image_back v w block is read =
      let p = comes_from v block is in
      let b = law.back v p.0 p.1 in
      let found : Some (contents w) ≡ Some b.reading = sym read ∙ p.2 ∙ b.read in
      b.same_image w (cc) ∙ sym p.1

  pub same_back : (v w : V) (block : List ℕ) → block_of_image (image v) ≡ Some block → plain v → reads_block reads block ≡ Some (contents w) → contents w ≡ contents v
  same_back v w block is plainly read =
      let p = comes_from v block is in
      let b = law.back v p.0 p.1 in
      let found : Some (contents w) ≡ Some b.reading = sym read ∙ p.2 ∙ b.read in
      let same : contents v ≡ b.reading = b.same plainly in
      cc
