use Rattle.std.proofs.Common.{◌-◌, length}
use Rattle.unixfs_build.proofs.builder.+add_part.Given as goal

abbrev pub decreases-add_part : goal.decreases-add_part
decreases-add_part l = length l.levels.now.items - l.index
