use Rattle.std.proofs.Common.{◌≡◌, map, drop, option_map, None}
use Rattle.dag_pb.specs.Views.{parts_of_link}
use Rattle.unixfs_folders.specs.Reading.{entries_from}
use Rattle.unixfs_folders.specs.Views.{entry_parts}
use Rattle.unixfs_folders.proofs.Loops.{after}
use Rattle.unixfs_folders.proofs.folder.read_entries.Given as goal

-- the entries so far, and those of the other links
abbrev pub invariant-loop-index : goal.invariant-loop-index
invariant-loop-index l =
    after (map entry_parts l.entries.items) (entries_from l.index (option_map (λ b. b.now) l.before) (map parts_of_link (drop l.index l.links)))
    ≡ entries_from 0 None (map parts_of_link l.links)
