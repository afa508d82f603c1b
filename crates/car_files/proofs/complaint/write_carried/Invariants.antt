use Rattle.std.proofs.Common.{map, take}
use Rattle.car_files.specs.Carried.{carrier}
use Rattle.car_files.specs.Complaints.{ComplainsOfEach}
use Rattle.car_files.proofs.complaint.write_carried.Given as goal
use Rattle.car_files.proofs.Streams.{lines_to}

-- the lines so far are written
abbrev pub invariant-loop-fault : goal.invariant-loop-fault
invariant-loop-fault g l =
    ComplainsOfEach (lines_to l.label (g.E.Write.contents l.initial.errors) (g.E.Write.contents l.errors)) l.offset (map carrier (take l.fault-index l.faults))
