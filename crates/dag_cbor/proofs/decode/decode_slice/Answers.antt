use Rattle.ipld_tree.specs.TreeOf.{tree_of}
use Rattle.dag_cbor_format.proofs.TreeOfBlock.{encoded_once}
use Rattle.dag_cbor_format.proofs.CidLaws.{cid_laws}
use Rattle.dag_cbor.proofs.decode.decode_slice.Goals as goal

pub returns-in-Ok-clause-only : goal.returns-in-Ok-clause-only
returns-in-Ok-clause-only c = λ t encodes. encoded_once cid_laws (tree_of c.in-Ok.tree) t c.args.bytes.now c.in-Ok.ensures.found encodes
