use Rattle.std.proofs.Common.{arith, map}
use Rattle.unixfs_folders.specs.Listing.{visited_from}
use Rattle.unixfs_folders.specs.Paths.{path_of}
use Rattle.unixfs_folders.specs.Views.{slot_parts}
use Rattle.unixfs_folders.specs.Walks.{visit_parts}
use Rattle.unixfs_folders.proofs.Visiting.{link_added}
use Rattle.unixfs_folders.proofs.visit.Visit.of_links.Goals as goal

pub loop-index-preserved : goal.loop-index-preserved
loop-index-preserved c =
    let at = path_of c.args.at.now in
    let links = c.args.links.now in
    link_added links c.loop-index.index at c.index-links-index.result (visit_parts c.loop-index.visit) (visit_parts c.add.new.self) (visited_from 0 at (map slot_parts links))
    (omega arith) c.index-links-index.is c.in-Ok.ensures c.loop-index.invariant
