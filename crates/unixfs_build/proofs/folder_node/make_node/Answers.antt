use Rattle.std.proofs.Common.{List, ℕ, ◌+◌, ◌≤◌, arith, map, refl, ap, subst, ◌∙◌}
use Rattle.std.specs.Prelude.{◌^◌}
use Rattle.ipld_cid.specs.LinkOf.{link_of}
use Rattle.dag_pb.specs.Views.{parts_of_link}
use Rattle.dag_pb.specs.declared.link.PbLink.{PbLink}
use Rattle.unixfs.specs.Views.{parts_of}
use Rattle.unixfs_build.specs.Blocks.{sha_link}
use Rattle.unixfs_build.specs.Nodes.{tsizes_of}
use Rattle.unixfs_build.specs.Packing.{node_not_encoded, node_too_large}
use Rattle.unixfs_build.proofs.Packed.{node_is, node_long}
use Rattle.unixfs_build.proofs.folder_node.make_node.Goals as goal

pub returns-in-Err-clause-fault : goal.returns-in-Err-clause-fault
returns-in-Err-clause-fault c = λ attributes same. node_not_encoded (c.in-Err.ensures.fault attributes same)

pub returns-in-Some-clause-exact : goal.returns-in-Some-clause-exact
returns-in-Some-clause-exact c =
    node_is c.args.version (parts_of c.args.message.now) (map parts_of_link c.args.links.items) (link_of c.node_cid.result) c.in-Some.total c.len.result c.deref.result.now c.in-Ok-encode_block.data.items
    (c.deref.ensures.value ∙ c.in-Ok.ensures.exact) c.in-Ok-encode_block.ensures.exact (c.node_cid.ensures ∙ ap (λ (b : List ℕ). sha_link c.args.version 0x70 b) c.deref-in-Some.ensures.value)
    (c.in-Some.ensures ∙ ap (λ (ls : List PbLink). c.len.result + tsizes_of (map parts_of_link ls)) c.deref-2.ensures.value) (omega (arith, c.len.ensures, c.in-Ok-encode_block.data.ok.0))

pub returns-clause-fault : goal.returns-clause-fault
returns-clause-fault c = λ attributes same.
    node_too_large refl (node_long c.args.version (parts_of c.args.message.now) (map parts_of_link c.args.links.items) c.len.result c.deref.result.now c.in-Ok-encode_block.data.items
    (c.deref.ensures.value ∙ c.in-Ok.ensures.exact) c.in-Ok-encode_block.ensures.exact (omega (arith, c.len.ensures, c.in-Ok-encode_block.data.ok.0)) (subst (λ (ls : List PbLink). 2 ^ 64 ≤ c.len.result + tsizes_of (map parts_of_link ls)) c.deref-2.ensures.value c.in-None.ensures))
