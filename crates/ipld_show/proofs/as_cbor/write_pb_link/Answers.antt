use Rattle.dag_pb.specs.Views.{parts_of_link}
use Rattle.ipld_show.proofs.Nodes.{link_adds, two_counted}
use Rattle.ipld_show.proofs.as_cbor.write_pb_link.Goals as goal

pub returns : goal.returns
returns c =
    link_adds (parts_of_link c.args.link.now) _ _ _ _ _ _ _
    (two_counted (λ name. name.now) c.args.link.now.name c.args.link.now.tsize c.from.result c.from-2.result c.is_some.result c.is_some-2.result c.from.ensures c.is_some.ensures
    c.from-2.ensures c.is_some-2.ensures)
    c.in_ok-write_head.ensures.ok c.in_ok-write_text.ensures.ok c.in_ok-write_link.ensures.ok c.in_ok-write_name.ensures c.in_ok-write_tsize.ensures
