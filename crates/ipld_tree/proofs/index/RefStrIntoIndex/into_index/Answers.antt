use Rattle.std.proofs.Common.{rules}
use Rattle.ipld_tree.proofs.index.RefStrIntoIndex.into_index.Goals as goal

pub returns : goal.returns
returns c = search rules
