use Rattle.std.proofs.Common.{arith}
use Rattle.car_files.proofs.Complaining.{next_complained}
use Rattle.car_files.proofs.complaint.write_carried.Goals as goal

pub loop-fault-preserved : goal.loop-fault-preserved
loop-fault-preserved g c =
    next_complained c.args.label.now c.args.offset c.args.faults.now c.loop-fault.fault-index c.fault-item.result (g.E.Write.contents c.args.errors.now)
    (g.E.Write.contents c.loop-fault.errors) (g.E.Write.contents c.write_complaint.new.errors) (omega arith) c.fault-item.is c.loop-fault.invariant c.in-Ok.ensures.written
