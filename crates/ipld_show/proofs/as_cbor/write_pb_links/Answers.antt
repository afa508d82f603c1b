use Rattle.std.proofs.Common.{arith}
use Rattle.ipld_show.proofs.Nodes.{links_at}
use Rattle.ipld_show.proofs.as_cbor.write_pb_links.Goals as goal

pub loop-link-preserved : goal.loop-link-preserved
loop-link-preserved c =
    links_at c.args.links.now c.loop-link.link-index c.link-item.result _ _ _ (omega arith) c.link-item.is c.loop-link.invariant c.in_ok-write_pb_link.ensures
