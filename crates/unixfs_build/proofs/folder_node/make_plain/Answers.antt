use Rattle.std.proofs.Common.{List, ap, ◌∙◌}
use Rattle.dag_pb.specs.Node.{LinkParts}
use Rattle.dag_pb.specs.Writing.{misplaced_link}
use Rattle.unixfs_build.proofs.Order.{entries_in_order}
use Rattle.unixfs_build.proofs.Packed.{plain_named}
use Rattle.unixfs_build.proofs.folder_node.make_plain.Goals as goal

pub make_node-requires : goal.make_node-requires
make_node-requires c = ap (λ (ls : List LinkParts). misplaced_link ls) c.in-Ok.ensures ∙ entries_in_order _ c.requires

pub returns-clause-folder : goal.returns-clause-folder
returns-clause-folder c =
    plain_named c.args.version c.args.attributes.now _ _ _ c.make_node.result c.message_with-message.ensures.parts c.in-Ok.ensures c.requires c.make_node.ensures.exact c.make_node.ensures.parsed
