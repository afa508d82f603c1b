use Rattle.ipld_cid.proofs.VarintWriting.{Continues}
use Rattle.ipld_cid.proofs.byte_buffer.ByteBuffer.push_varint.Given as goal

abbrev pub invariant-loop-rest : goal.invariant-loop-rest
invariant-loop-rest g l = Continues l.fn.self l.self l.number l.rest

abbrev pub decreases-loop-rest : goal.decreases-loop-rest
decreases-loop-rest g l = l.rest
