-- The models of walks over folders.
use Rattle.std.specs.Prelude.{List, [], ◌∷◌, map, reverse, Option, Some, None}
use Rattle.ipld_cid.specs.LinkOf.{link_of}
use Rattle.unixfs_folders.specs.declared.visit.Place.{Place}
use Rattle.unixfs_folders.specs.declared.visit.Visit.{Visit}
use Rattle.unixfs_folders.specs.declared.walk.FolderWalk.{FolderWalk}
use Rattle.unixfs_folders.specs.Listing.{Waiting, VisitParts}
use Rattle.unixfs_folders.specs.Paths.{path_of}
use Rattle.unixfs_folders.specs.Views.{entry_parts}

-- the model of a folder or a shard that waits
abbrev pub waiting_of : Place → Waiting
waiting_of p = record { link = link_of p.cid; path = path_of p.path }

-- the model of a visit
abbrev pub visit_parts : Visit → VisitParts
visit_parts v = record { entries = map entry_parts v.entries.items; below = map waiting_of v.below.items }

-- what comes next, and then the others, of which the first is last
abbrev pub remain_from : Option Place → List Place → List Waiting
remain_from None others = []
remain_from (Some next) others = waiting_of next ∷ reverse (map waiting_of others)

-- what remains of a walk, in its order
abbrev pub remain_of : FolderWalk → List Waiting
remain_of w = remain_from w.next w.others.items
