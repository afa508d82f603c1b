use Rattle.std.proofs.Common.{◌≡◌, map, drop}
use Rattle.unixfs_folders.specs.Sayings.{said_in}
use Rattle.unixfs_folders.specs.Views.{slot_parts}
use Rattle.unixfs_folders.proofs.saying.said_in.Given as goal

-- the slot is not that of a link so far
abbrev pub invariant-loop-link : goal.invariant-loop-link
invariant-loop-link l = said_in l.name l.depth l.slot (map slot_parts (drop l.link-index l.links)) ≡ said_in l.name l.depth l.slot (map slot_parts l.links)
