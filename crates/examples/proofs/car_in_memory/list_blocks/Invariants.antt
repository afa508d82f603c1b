use Rattle.std.proofs.Common.{◌-◌}
use Rattle.examples.proofs.car_in_memory.list_blocks.Given as goal

-- how many bytes the sections have that were not read
abbrev pub decreases-loop-reader : goal.decreases-loop-reader
decreases-loop-reader g l = l.end - l.at
