use Rattle.unixfs.specs.Nodes.{node_parts}
use Rattle.unixfs_folders.specs.Folders.{IsFolderOf}
use Rattle.unixfs_folders.specs.Reading.{folder_of}
use Rattle.unixfs_folders.proofs.Parsing.{folder_sound, folder_complete, found_by, only_by}
use Rattle.unixfs_folders.proofs.folder.folder_of.Goals as goal

pub returns-clause-found : goal.returns-clause-found
returns-clause-found c =
    let node = node_parts c.args.node.now in
    found_by c.folder_by_type.result (folder_of node) (λ f. IsFolderOf node.links node.message f) (λ f is. folder_sound node f is) c.folder_by_type.ensures

pub returns-clause-only : goal.returns-clause-only
returns-clause-only c = λ f is.
    let node = node_parts c.args.node.now in
    only_by c.folder_by_type.result (folder_of node) f (folder_complete node f is) c.folder_by_type.ensures
