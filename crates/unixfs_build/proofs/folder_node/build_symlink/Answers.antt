use Rattle.std.proofs.Common.{List, ℕ, map, ap, ◌∙◌}
use Rattle.dag_pb.specs.Views.{parts_of_link}
use Rattle.dag_pb.specs.declared.link.PbLink.{PbLink}
use Rattle.unixfs_build.specs.Nodes.{symlink_message}
use Rattle.unixfs_build.proofs.Packed.{symlink_named, fault_is}
use Rattle.unixfs_build.proofs.folder_node.build_symlink.Goals as goal

pub returns-clause-target : goal.returns-clause-target
returns-clause-target c =
    symlink_named c.args.version c.args.attributes.now _ _ _ c.make_node.result (c.message_with-message.ensures.parts ∙ ap (λ (t : List ℕ). symlink_message c.args.attributes.now t) c.as_bytes.ensures.value)
    (ap (λ (ls : List PbLink). map parts_of_link ls) c.new.ensures.items) c.make_node.ensures.exact c.make_node.ensures.parsed

pub returns-clause-fault : goal.returns-clause-fault
returns-clause-fault c =
    fault_is c.args.version c.args.attributes.now _ _ _ _ c.make_node.result (c.message_with-message.ensures.parts ∙ ap (λ (t : List ℕ). symlink_message c.args.attributes.now t) c.as_bytes.ensures.value)
    (ap (λ (ls : List PbLink). map parts_of_link ls) c.new.ensures.items) (c.make_node.ensures.fault c.args.attributes.now c.message_with-message.ensures.mtime)
