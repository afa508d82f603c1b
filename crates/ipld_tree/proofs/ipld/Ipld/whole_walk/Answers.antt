use Rattle.std.proofs.Common.{rules}
use Rattle.ipld_tree.proofs.ipld.Ipld.whole_walk.Goals as goal

pub returns-clause-ended : goal.returns-clause-ended
returns-clause-ended c = search rules

pub returns-clause-iterations : goal.returns-clause-iterations
returns-clause-iterations c = search rules

pub returns-clause-capacity : goal.returns-clause-capacity
returns-clause-capacity c = search rules
