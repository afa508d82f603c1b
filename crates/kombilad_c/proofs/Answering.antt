-- What reading a block comes to as a status.
use Rattle.std.proofs.Common.{◌≡◌, ℕ, true, List, None, ap}
use Rattle.ipld_tree.specs.Tree.{Tree}
use Rattle.ipld_tree.specs.Limits.{Within}
use Rattle.ipld_tree.specs.declared.limits.Limits.{Limits}
use Rattle.dag_cbor_format.specs.WithFloats.{EncodesTreeIn}
use Rattle.dag_cbor_format.specs.Trace.{error_in}
use Rattle.dag_cbor_format.proofs.ErrorLaws.{no_error_in}
use Rattle.dag_cbor_blocks.specs.Within.{StopsAt}
use Rattle.dag_cbor_format.proofs.CidLaws.{cid_laws}
use Rattle.dag_cbor_blocks.specs.declared.block_error.BlockErrorKind.{BlockErrorKind}
use Rattle.dag_cbor_blocks.proofs.EventReads as of_block
use Rattle.kombilad_c.specs.Status.{limit_status}

-- a block has a tree, with null for each float
pub tree_of_block : (block : List ℕ) → error_in true block ≡ None → (t : Tree) × EncodesTreeIn true t block
tree_of_block block e = (no_error_in cid_laws true block).0 e

-- of a block within the limits memory alone can fail
pub only_memory : (limits : Limits) (block : List ℕ) (kind : BlockErrorKind) (offset : ℕ) → StopsAt true limits block kind offset
    → (t : Tree) → EncodesTreeIn true t block → Within limits t → limit_status kind ≡ 1
only_memory limits block kind offset stops t is within = ap limit_status (of_block.only_memory true limits block kind offset stops t is within)
