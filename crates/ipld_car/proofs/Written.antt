-- What is written of a header.
use Rattle.std.proofs.Common.{◌≡◌, ℕ, ◌^◌, ◌<◌, List, ◌++◌, length, Option, Some, option_map, sym, ap, subst, ◌∙◌}
use Rattle.std.specs.Io.KnownBytes.{Appends}
use Rattle.ipld_cid.specs.Cid.{Link}
use Rattle.ipld_cid.specs.Varint.{varint_of}
use Rattle.ipld_cid.proofs.Varints.{varint_encodes}
use Rattle.ipld_tree.specs.Tree.{Tree}
use Rattle.dag_cbor_format.specs.Canonical.{canonical}
use Rattle.dag_cbor.specs.Lemmas.BlockLaws.{block_writes_encoded}
use Rattle.ipld_car.specs.Header.{IsHeader, header_tree, canonical_header}
use Rattle.ipld_car.specs.Writing.{WritesHeader}

-- a varint and a block are a header
pub header_written : (t : Tree) (roots : List Link) (block bytes : List ℕ) → t ≡ header_tree roots → canonical t ≡ Some block → length block < 2 ^ 64
    → bytes ≡ varint_of (length block) ++ block → IsHeader bytes roots
header_written t roots block bytes is written fits e = record {
  size = varint_of (length block);
  block = block;
  size_encoded = varint_encodes (length block) fits;
  block_encoded = block_writes_encoded (header_tree roots) block (subst (λ u. canonical u ≡ Some block) is written);
  encoded = e;
}

-- whose block is the canonical one
pub header_exact : (t : Tree) (roots : List Link) (block bytes : List ℕ) → t ≡ header_tree roots → canonical t ≡ Some block → bytes ≡ varint_of (length block) ++ block
    → canonical_header roots ≡ Some bytes
header_exact t roots block bytes is written e =
    ap (option_map (λ (b : List ℕ). varint_of (length b) ++ b)) (subst (λ u. canonical u ≡ Some block) is written) ∙ ap Some (sym e)

pub writes_header : (old new : Option (List ℕ)) (roots : List Link) (header : List ℕ) → IsHeader header roots → canonical_header roots ≡ Some header → Appends old new header
    → WritesHeader old new roots
writes_header old new roots header h exact a = record { header = header; is_header = h; is_canonical = exact; appends = a }
