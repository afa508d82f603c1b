use Rattle.std.proofs.Common.{◌≡◌, ◌+◌, ◌-◌, ◌*◌, map, take}
use Rattle.std.specs.List.{All, flat_map}
use Rattle.unixfs_folders.specs.Views.{slot_parts}
use Rattle.unixfs_build.specs.Blocks.{no_attributes}
use Rattle.unixfs_build.specs.Shards.{slots_with, nodes_with, shard_root, shard_nodes, HoldsIn, AreShards}
use Rattle.unixfs_build.specs.Views.{made}
use Rattle.unixfs_build.proofs.shard.+build_shard.Given as goal

abbrev pub decreases-add_slot : goal.decreases-add_slot
decreases-add_slot l = 2 * l.levels + 1

abbrev pub decreases-build_shard : goal.decreases-build_shard
decreases-build_shard l = 2 * l.levels

-- what the slots so far have
abbrev pub invariant-build_shard-loop-slot : goal.invariant-build_shard-loop-slot
invariant-build_shard-loop-slot l =
    (map slot_parts l.shard.links.items ≡ slots_with (shard_root (l.levels - 1) l.version no_attributes) 0 (take l.slot l.inside-items))
    × (map made l.shard.below.items ≡ flat_map (nodes_with (shard_nodes (l.levels - 1) l.version no_attributes)) (take l.slot l.inside-items))
    × All (HoldsIn (AreShards (l.levels - 1) l.version no_attributes)) (take l.slot l.inside-items)
