use Rattle.ipld_tree.specs.TreeOf.{tree_of}
use Rattle.dag_cbor_format.proofs.TreeOfBlock.{encoded_once}
use Rattle.dag_cbor_format.proofs.CidLaws.{cid_laws}
use Rattle.dag_cbor_blocks.proofs.BlockLimits.{none_passed, not_beyond}
use Rattle.dag_cbor.proofs.decode.decode_slice_within.Goals as goal

pub returns-in-Ok-clause-only : goal.returns-in-Ok-clause-only
returns-in-Ok-clause-only c = λ t encodes within. encoded_once cid_laws (tree_of c.in-Ok.tree) t c.args.bytes.now c.in-Ok.ensures.found encodes

pub returns-in-Ok-clause-beyond : goal.returns-in-Ok-clause-beyond
returns-in-Ok-clause-beyond c = λ t encodes outside.
    absurd (outside (not_beyond c.args.limits.now c.args.bytes.now t encodes (tree_of c.in-Ok.tree) c.in-Ok.ensures.found c.in-Ok.ensures.within))

pub returns-in-Ok-clause-exact : goal.returns-in-Ok-clause-exact
returns-in-Ok-clause-exact c = none_passed c.args.limits.now c.args.bytes.now (tree_of c.in-Ok.tree) c.in-Ok.ensures.found c.in-Ok.ensures.within
