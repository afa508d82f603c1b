use Rattle.std.proofs.Common.{◌≡◌, map, drop}
use Rattle.unixfs_folders.specs.Sayings.{named}
use Rattle.unixfs_folders.specs.Views.{entry_parts}
use Rattle.unixfs_folders.proofs.saying.named.Given as goal

-- the entry is not one of those so far
abbrev pub invariant-loop-entry : goal.invariant-loop-entry
invariant-loop-entry l = named l.name (map entry_parts (drop l.entry-index l.entries)) ≡ named l.name (map entry_parts l.entries)
