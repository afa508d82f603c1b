use Rattle.std.proofs.Common.{length}
use Rattle.unixfs_build.proofs.builder.+finish_levels.Given as goal

abbrev pub decreases-finish_levels : goal.decreases-finish_levels
decreases-finish_levels l = length l.levels.now
