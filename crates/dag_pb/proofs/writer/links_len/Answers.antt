use Rattle.std.proofs.Common.{arith}
use Rattle.dag_pb.proofs.Written.{counts_more, encodes_more}
use Rattle.dag_pb.proofs.writer.links_len.Goals as goal

pub loop-link-preserved : goal.loop-link-preserved
loop-link-preserved c =
    let sum = c.saturating_add-field_len.ensures in
    let all = c.saturating_add-total.ensures in
    record {
      short = counts_more c.args.links.now c.loop-link.link-index c.link-item.result c.loop-link.total c.link_len-len.result c.content_head_len.result c.saturating_add-field_len.result
          c.saturating_add-total.result (omega arith) c.link-item.is c.loop-link.invariant.short c.link_len-len.ensures.len c.content_head_len.ensures.len (omega arith) (omega arith);
      encoded = encodes_more c.args.links.now c.loop-link.link-index c.link-item.result c.link_len-len.result (omega arith) c.link-item.is c.loop-link.invariant.encoded c.link_len-len.ensures.encoded
          c.link_len-len.ensures.len (omega arith);
    }
