use Rattle.std.proofs.Common.{◌≡◌, ◌+◌, map, take}
use Rattle.unixfs_build.specs.Packing.{listed_sizes}
use Rattle.unixfs_build.specs.Views.{entry_of}
use Rattle.unixfs_build.proofs.entry.are_longer.Given as goal

-- what is left without the entries so far
abbrev pub invariant-loop-entry : goal.invariant-loop-entry
invariant-loop-entry l = l.rest + listed_sizes (map entry_of (take l.entry-index l.entries)) ≡ l.above
