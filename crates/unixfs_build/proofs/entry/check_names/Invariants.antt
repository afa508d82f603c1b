use Rattle.std.proofs.Common.{map, drop, option_map, None}
use Rattle.unixfs_folders.specs.Folders.{AreEntries}
use Rattle.unixfs_build.specs.Packing.{IsNameFault}
use Rattle.unixfs_build.specs.Views.{entry_of}
use Rattle.unixfs_build.specs.declared.error.BuildError.{BuildError}
use Rattle.unixfs_build.proofs.entry.check_names.Given as goal

-- what is so of the other entries is so of all
abbrev pub invariant-loop-index : goal.invariant-loop-index
invariant-loop-index l =
    (AreEntries (option_map (λ b. b.now) l.before) (map entry_of (drop l.index l.entries)) → AreEntries None (map entry_of l.entries))
    × ((error : BuildError) → IsNameFault l.index (option_map (λ b. b.now) l.before) (map entry_of (drop l.index l.entries)) error → IsNameFault 0 None (map entry_of l.entries) error)
