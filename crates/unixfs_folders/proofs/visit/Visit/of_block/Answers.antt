use Rattle.std.proofs.Common.{◌≡◌, Ok, subst, sym}
use Rattle.ipld_block.specs.Digest.{digest_by}
use Rattle.unixfs_folders.specs.Folders.{FolderParts}
use Rattle.unixfs_folders.specs.Listing.{Visits, VisitParts, visited}
use Rattle.unixfs_folders.specs.Views.{folder_parts}
use Rattle.unixfs_folders.specs.Walks.{waiting_of}
use Rattle.unixfs_folders.proofs.Visiting.{visit_sound, visit_complete, visits_found, visits_only}
use Rattle.unixfs_folders.proofs.visit.Visit.of_block.Goals as goal

pub returns-in-Ok-clause-found : goal.returns-in-Ok-clause-found
returns-in-Ok-clause-found c =
    let next = waiting_of c.args.next.now in
    let folder = folder_parts c.in-Ok.folder in
    visits_found c.of_folder.result (visited next.path folder) (λ v. Visits digest_by next c.args.block.now v.entries v.below)
    (λ v is. record { folder = folder; is_folder = c.in-Ok.ensures.found; is_visit = visit_sound next folder v is }) c.of_folder.ensures

pub returns-in-Ok-clause-only : goal.returns-in-Ok-clause-only
returns-in-Ok-clause-only c = λ entries below visits.
    let next = waiting_of c.args.next.now in
    let same = c.in-Ok.ensures.only visits.folder visits.is_folder in
    let v : VisitParts = record { entries = entries; below = below } in
    visits_only c.of_folder.result (visited next.path (folder_parts c.in-Ok.folder)) v
    (subst (λ (f : FolderParts). visited next.path f ≡ Ok v) (sym same) (visit_complete next visits.folder entries below visits.is_visit)) c.of_folder.ensures

pub returns-in-Err-clause-only : goal.returns-in-Err-clause-only
returns-in-Err-clause-only c = λ entries below visits. c.in-Err.ensures.only visits.folder visits.is_folder
