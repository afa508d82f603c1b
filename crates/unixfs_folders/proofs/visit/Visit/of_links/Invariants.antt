use Rattle.std.proofs.Common.{◌≡◌, map, drop}
use Rattle.unixfs_folders.specs.Listing.{then_joined, visited_from}
use Rattle.unixfs_folders.specs.Paths.{path_of}
use Rattle.unixfs_folders.specs.Views.{slot_parts}
use Rattle.unixfs_folders.specs.Walks.{visit_parts}
use Rattle.unixfs_folders.proofs.visit.Visit.of_links.Given as goal

-- what the links so far add, and what the others do
abbrev pub invariant-loop-index : goal.invariant-loop-index
invariant-loop-index l =
    then_joined (visit_parts l.visit) (visited_from l.index (path_of l.at) (map slot_parts (drop l.index l.links)))
    ≡ visited_from 0 (path_of l.at) (map slot_parts l.links)
