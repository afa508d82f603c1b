use Rattle.std.proofs.Common.{◌≡◌, map, drop}
use Rattle.dag_pb.specs.Views.{parts_of_link}
use Rattle.unixfs_folders.specs.Reading.{slots_from}
use Rattle.unixfs_folders.specs.Views.{slot_parts}
use Rattle.unixfs_folders.proofs.Loops.{after}
use Rattle.unixfs_folders.proofs.folder.read_links.Given as goal

-- the slots so far, and those of the other links
abbrev pub invariant-loop-index : goal.invariant-loop-index
invariant-loop-index l =
    after (map slot_parts l.slots.items) (slots_from l.index l.least (map parts_of_link (drop l.index l.links)))
    ≡ slots_from 0 0 (map parts_of_link l.links)
