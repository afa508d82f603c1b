use Rattle.std.proofs.Common.{◌≡◌, map, take}
use Rattle.dag_pb.specs.Views.{parts_of_link}
use Rattle.unixfs_folders.specs.Folders.{link_of_entry}
use Rattle.unixfs_build.specs.Views.{entry_of}
use Rattle.unixfs_build.proofs.folder_node.entry_links.Given as goal

-- the links so far
abbrev pub invariant-loop-entry : goal.invariant-loop-entry
invariant-loop-entry l = map parts_of_link l.links.items ≡ map link_of_entry (map entry_of (take l.entry-index l.entries))
