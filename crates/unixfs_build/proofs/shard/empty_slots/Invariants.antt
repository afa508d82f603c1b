use Rattle.std.proofs.Common.{◌≡◌, [], replicate}
use Rattle.unixfs_build.proofs.shard.empty_slots.Given as goal

-- the slots so far
abbrev pub invariant-loop : goal.invariant-loop
invariant-loop l = l.slots.items ≡ replicate l.counter []
