use Rattle.std.proofs.Common.{◌≡◌, length}
use denote.Text.{Utf8}
use denote.Shadow.{shadow}
use Rattle.ipld_tree.specs.Path.{parts_of}
use Rattle.unixfs_folders.specs.SymlinkTargets.{stays_below, stays_inside}
use Rattle.unixfs_folders.proofs.symlink_target.stays_inside.Given as goal

abbrev pub invariant-loop-segment : goal.invariant-loop-segment
invariant-loop-segment l = shadow (Utf8 l.rest) × (stays_inside l.depth l.target ≡ stays_below (parts_of l.rest) l.levels)

abbrev pub decreases-loop-segment : goal.decreases-loop-segment
decreases-loop-segment l = length l.rest
