use Rattle.std.proofs.Common.{subst, sym}
use Rattle.unixfs.specs.Nodes.{UnixFsParts}
use Rattle.unixfs_folders.specs.Folders.{IsFolderOf}
use Rattle.unixfs_folders.proofs.folder.read_folder.Goals as goal

pub returns-in-Ok-clause-only : goal.returns-in-Ok-clause-only
returns-in-Ok-clause-only c = λ f is.
    c.folder_of.ensures.only f (subst (λ (u : UnixFsParts). IsFolderOf u.links u.message f) (sym (c.in-Ok.ensures.only (record { links = is.links; message = is.message }) is.is_parsed)) is.is_folder)

pub returns-in-Err-clause-only : goal.returns-in-Err-clause-only
returns-in-Err-clause-only c = λ f is. c.in-Err.ensures.only (record { links = is.links; message = is.message }) is.is_parsed
