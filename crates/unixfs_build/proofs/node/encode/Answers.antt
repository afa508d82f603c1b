use Rattle.std.proofs.Common.{List, ap, refl, ◌∙◌}
use Rattle.dag_pb.specs.Node.{LinkParts}
use Rattle.dag_pb.specs.Writing.{misplaced_link}
use Rattle.unixfs_build.proofs.Encoding.{block_is, no_misplaced}
use Rattle.unixfs_build.proofs.node.encode.Goals as goal

pub encode_block-requires : goal.encode_block-requires
encode_block-requires c = ap (λ (ls : List LinkParts). misplaced_link ls) c.requires.1.links ∙ no_misplaced c.requires.0

pub returns-in-Ok-encode_block-clause-exact : goal.returns-in-Ok-encode_block-clause-exact
returns-in-Ok-encode_block-clause-exact c = λ parts lead.
    block_is c.args.attributes.now c.args.head.now parts _ _ _ _ _ _ _ lead.links c.if_any.ensures lead.size lead.sizes c.in-Ok.ensures.exact c.deref.ensures.value c.in-Ok-encode_block.ensures.exact

pub returns-in-Err-clause-fault : goal.returns-in-Err-clause-fault
returns-in-Err-clause-fault c = c.in-Err.ensures.fault c.args.attributes.now refl
