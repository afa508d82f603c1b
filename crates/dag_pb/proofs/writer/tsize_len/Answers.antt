use Rattle.std.proofs.Common.{arith}
use Rattle.pb_wire.proofs.Written.{number_written}
use Rattle.dag_pb.proofs.writer.tsize_len.Goals as goal

pub returns-in-Some-clause-encoded : goal.returns-in-Some-clause-encoded
returns-in-Some-clause-encoded c = rw c.in-Some.is (number_written 3 c.in-Some.tsize (omega arith) c.number_len.ensures.short.1)
