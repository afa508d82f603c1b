use Rattle.std.proofs.Common.{take, drop, length, Some}
use Rattle.ipld_car.proofs.LengthReading.{ReadsGroups}
use Rattle.ipld_car.proofs.frame_in.length_in.Given as goal

-- the groups that were read
abbrev pub invariant-loop-place : goal.invariant-loop-place
invariant-loop-place l = ReadsGroups (Some l.bytes) (Some (drop l.place l.bytes)) (take l.place l.bytes) l.value l.place (length l.bytes)
