use Rattle.std.proofs.Common.{List, ℕ, Some, ap, ◌∙◌}
use Rattle.dag_pb.specs.Node.{LinkParts, NodeParts}
use Rattle.dag_pb.specs.Writing.{misplaced_link}
use Rattle.unixfs.specs.declared.data.DataType.TheVariants.{HamtShard}
use Rattle.unixfs_build.specs.Nodes.{message_with}
use Rattle.unixfs_build.proofs.Order.{slots_in_order}
use Rattle.unixfs_build.proofs.Packed.{shard_named}
use Rattle.unixfs_build.proofs.folder_node.make_shard.Goals as goal

pub make_node-requires : goal.make_node-requires
make_node-requires c = ap (λ (ls : List LinkParts). misplaced_link ls) (ap (λ (n : NodeParts). n.links) c.in-Ok-as_node.ensures ∙ c.in-Ok-slot_links.ensures) ∙ slots_in_order _ c.requires

pub returns-clause-shard : goal.returns-clause-shard
returns-clause-shard c =
    shard_named c.args.version c.args.attributes.now _ _ _ c.make_node.result
    (c.message_with-message.ensures.parts ∙ ap (λ (bits : List ℕ). message_with c.args.attributes.now HamtShard (Some bits) (Some 0x22) (Some 256)) (c.deref.ensures.value ∙ c.in-Ok.ensures))
    (ap (λ (n : NodeParts). n.links) c.in-Ok-as_node.ensures ∙ c.in-Ok-slot_links.ensures) c.requires c.make_node.ensures.exact c.make_node.ensures.parsed
