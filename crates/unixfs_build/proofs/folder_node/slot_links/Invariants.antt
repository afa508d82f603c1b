use Rattle.std.proofs.Common.{◌≡◌, map, take}
use Rattle.dag_pb.specs.Views.{parts_of_link_buf}
use Rattle.unixfs_folders.specs.Folders.{link_of_slot}
use Rattle.unixfs_folders.specs.Views.{slot_parts}
use Rattle.unixfs_build.proofs.folder_node.slot_links.Given as goal

-- the links so far
abbrev pub invariant-loop-slot : goal.invariant-loop-slot
invariant-loop-slot l = map parts_of_link_buf l.links.items ≡ map link_of_slot (map slot_parts (take l.slot-index l.slots))
