use Rattle.std.proofs.Common.{◌≡◌, Ok, subst, sym}
use Rattle.unixfs_folders.specs.Folders.{FolderParts}
use Rattle.unixfs_folders.specs.Sayings.{said}
use Rattle.unixfs_folders.specs.Views.{folder_parts}
use Rattle.unixfs_folders.proofs.Searching.{said_only}
use Rattle.unixfs_folders.proofs.saying.look.Goals as goal

pub returns-in-Ok-clause-only : goal.returns-in-Ok-clause-only
returns-in-Ok-clause-only c = λ s says.
    let same = c.in-Ok.ensures.only says.folder says.is_folder in
    said_only c.said.result (said c.args.name.now c.args.depth (folder_parts c.in-Ok.folder)) s
    (subst (λ (f : FolderParts). said c.args.name.now c.args.depth f ≡ Ok s) (sym same) says.is_said) c.said.ensures

pub returns-in-Err-clause-only : goal.returns-in-Err-clause-only
returns-in-Err-clause-only c = λ s says. c.in-Err.ensures.only says.folder says.is_folder
