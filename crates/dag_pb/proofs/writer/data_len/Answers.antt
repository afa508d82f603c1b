use Rattle.std.proofs.Common.{arith}
use Rattle.pb_wire.proofs.Written.{content_written}
use Rattle.dag_pb.proofs.writer.data_len.Goals as goal

pub returns-in-Some-clause-encoded : goal.returns-in-Some-clause-encoded
returns-in-Some-clause-encoded c =
    let short = c.content_len.ensures.short.1 in
    rw c.in-Some.is (content_written 1 c.in-Some.content.now (omega arith) (omega arith))
