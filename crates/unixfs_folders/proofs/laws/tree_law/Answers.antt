use Rattle.unixfs_folders.proofs.FileTrees.{one_tree, made_tree, listed_tree}
use Rattle.unixfs_folders.proofs.laws.tree_law.Goals as goal

pub returns : goal.returns
returns c = record {
  one_tree = one_tree c.parsed_law.ensures c.content_law.ensures;
  made = made_tree c.parsed_law.ensures;
  listed = listed_tree c.parsed_law.ensures;
}
