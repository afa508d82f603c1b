use Rattle.std.proofs.Common.{◌≡◌, map, take}
use Rattle.unixfs_build.specs.Shards.{by_slot}
use Rattle.unixfs_build.specs.Views.{entry_of}
use Rattle.unixfs_build.proofs.shard.spread.Given as goal

-- the slots of the entries so far
abbrev pub invariant-loop-entry : goal.invariant-loop-entry
invariant-loop-entry l = l.slots.items ≡ by_slot l.depth (map entry_of (take l.entry-index l.entries))
