use Rattle.std.proofs.Common.{◌≡◌, ap, sym, ◌∙◌}
use Rattle.unixfs_folders.specs.declared.walk.FolderWalk.{FolderWalk}
use Rattle.unixfs_folders.specs.Walks.{remain_of}
use Rattle.kombilad_c.specs.declared.held.Held.{Held}
use Rattle.kombilad_c.specs.declared.held.Held.TheVariants.{Folder}
use Rattle.kombilad_c.proofs.folder.take_held.Goals as goal

same_folder : (a b : FolderWalk) → ◌≡◌ {A = Held} (Folder a) (Folder b) → a ≡ b
same_folder a b is = cc

pub returns-in-Folder-clause-only : goal.returns-in-Folder-clause-only
returns-in-Folder-clause-only c = λ w next others entries below is left visits rows names.
    let same = same_folder c.in-Folder.walk w (sym c.in-Folder.is ∙ is) in
    c.take_block.ensures.only next others entries below (ap remain_of same ∙ left) visits rows names
