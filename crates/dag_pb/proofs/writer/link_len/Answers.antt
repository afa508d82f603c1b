use Rattle.std.proofs.Common.{arith}
use Rattle.ipld_cid.specs.LinkOf.{valid_link}
use Rattle.dag_pb.specs.Views.{parts_of_link}
use Rattle.dag_pb.proofs.Written.{link_len_is, link_encoded}
use Rattle.dag_pb.proofs.writer.link_len.Goals as goal

pub returns-clause-len : goal.returns-clause-len
returns-clause-len c =
    link_len_is (parts_of_link c.args.link.now) c.content_head_len.result c.encoded_len-hash.result c.name_len.result c.tsize_len.result c.content_head_len.ensures.len c.encoded_len-hash.ensures.len
    c.name_len.ensures.len c.tsize_len.ensures.len

pub returns-clause-encoded : goal.returns-clause-encoded
returns-clause-encoded c =
    link_encoded (parts_of_link c.args.link.now) (valid_link c.args.link.now.hash) (omega (arith, c.encoded_len-hash.ensures.len, c.encoded_len-hash.ensures.short)) c.name_len.ensures.encoded c.tsize_len.ensures.encoded
