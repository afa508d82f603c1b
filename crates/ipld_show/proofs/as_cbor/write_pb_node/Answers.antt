use Rattle.std.proofs.Common.{arith, ◌∙◌}
use Rattle.dag_pb.specs.Views.{parts_of_node}
use Rattle.ipld_show.proofs.Nodes.{node_adds, one_counted, size_is}
use Rattle.ipld_show.proofs.as_cbor.write_pb_node.Goals as goal

pub returns : goal.returns
returns c =
    node_adds (parts_of_node c.args.node.now) _ c.len.result _ _ _ _ _ _
    (one_counted (λ d. d.now) c.args.node.now.data c.from.result c.is_some.result c.from.ensures c.is_some.ensures)
    (size_is c.args.node.now.links.items c.len.result (c.len.ensures ∙ c.args.node.now.links.ok.0)) (omega arith)
    c.in_ok-write_head.ensures.ok c.in_ok-write_data.ensures c.in_ok-write_text.ensures.ok c.in_ok-write_head-2.ensures.ok
    (rw c.deref.ensures.value at c.in_ok-write_pb_links.ensures)
