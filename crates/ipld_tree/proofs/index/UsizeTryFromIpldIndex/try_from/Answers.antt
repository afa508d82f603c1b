use Rattle.std.proofs.Common.{rules}
use Rattle.ipld_tree.proofs.index.UsizeTryFromIpldIndex.try_from.Goals as goal

pub returns : goal.returns
returns c = search rules
