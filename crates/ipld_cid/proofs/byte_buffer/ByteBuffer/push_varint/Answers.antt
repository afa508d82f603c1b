use Rattle.std.proofs.Common.{arith}
use Rattle.ipld_cid.proofs.VarintWriting.{starts, goes_on, ends, group_written, one_byte}
use Rattle.ipld_cid.proofs.byte_buffer.ByteBuffer.push_varint.Goals as goal

pub loop-rest-init : goal.loop-rest-init
loop-rest-init g c = starts c.args.self.now c.args.number (omega arith)

pub loop-rest-preserved : goal.loop-rest-preserved
loop-rest-preserved g c =
    goes_on c.args.self.now c.loop-rest.self c.push.new.self c.args.number c.loop-rest.rest _ c.loop-rest.invariant c.loop-rest-test.true c.push.ensures (group_written c.loop-rest.rest)

pub returns-clause-written : goal.returns-clause-written
returns-clause-written g c =
    ends c.args.self.now c.loop-rest.self c.push-2.new.self c.args.number c.loop-rest.rest c.loop-rest.invariant c.loop-rest-test.false c.push-2.ensures

pub returns-clause-one : goal.returns-clause-one
returns-clause-one g c =
    one_byte c.args.self.now c.push-2.new.self c.args.number (ends c.args.self.now c.loop-rest.self c.push-2.new.self c.args.number c.loop-rest.rest c.loop-rest.invariant c.loop-rest-test.false c.push-2.ensures)
