use Rattle.std.proofs.Common.{ap, sym, ◌∙◌}
use Rattle.dag_pb.specs.Node.{NodeParts}
use Rattle.unixfs.proofs.Nodes.{both}
use Rattle.unixfs.proofs.node.read_unixfs.Goals as goal

pub returns-in-Ok-clause-only : goal.returns-in-Ok-clause-only
returns-in-Ok-clause-only c = λ u is.
    let same = c.in-Ok.ensures.only is.node is.is_node in
    both c.with_message.result c.in-Ok.node.links.items u c.with_message.ensures.links (ap (λ (n : NodeParts). n.links) same ∙ sym is.are_links)
    (c.with_message.ensures.only u.message (is.message, ap (λ (n : NodeParts). n.content) same ∙ is.has_message, is.is_data))

pub returns-in-Err-clause-only : goal.returns-in-Err-clause-only
returns-in-Err-clause-only c = λ u is. c.in-Err.ensures.only is.node is.is_node
