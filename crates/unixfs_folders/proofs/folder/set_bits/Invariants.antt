use Rattle.std.proofs.Common.{◌≡◌, map, drop, replicate}
use Rattle.unixfs_folders.specs.Folders.{set_bits}
use Rattle.unixfs_folders.specs.Views.{slot_parts}
use Rattle.unixfs_folders.proofs.folder.set_bits.Given as goal

-- the bits so far, and those of the other links
abbrev pub invariant-loop-link : goal.invariant-loop-link
invariant-loop-link l = set_bits l.bits (map slot_parts (drop l.link-index l.links)) ≡ set_bits (replicate 32 0) (map slot_parts l.links)
