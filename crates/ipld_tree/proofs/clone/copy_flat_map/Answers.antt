use Rattle.std.proofs.Common.{ap, ◌∙◌}
use Rattle.ipld_tree.specs.Tree.{entries}
use Rattle.ipld_tree.proofs.Trees.{tree_of-Map}
use Rattle.ipld_tree.proofs.Entries.{members_of_clones}
use Rattle.ipld_tree.proofs.clone.copy_flat_map.Goals as goal

pub returns : goal.returns
returns c = tree_of-Map c.in_ok-copies.copies ∙ ap entries (members_of_clones c.args.members.now.entries c.in_ok-copies.copies.entries c.in_ok-copies.ensures.cases)
