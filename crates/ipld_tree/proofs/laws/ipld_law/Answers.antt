use Rattle.ipld_tree.proofs.EveryIpld.{is_tree}
use Rattle.ipld_tree.proofs.laws.ipld_law.Goals as goal

pub returns : goal.returns
returns c = is_tree
