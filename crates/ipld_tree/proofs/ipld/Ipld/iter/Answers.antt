use Rattle.std.proofs.Common.{rules}
use Rattle.ipld_tree.proofs.ipld.Ipld.iter.Goals as goal

pub returns-clause-walk : goal.returns-clause-walk
returns-clause-walk c = search rules

pub returns-clause-slots : goal.returns-clause-slots
returns-clause-slots c = search rules

pub returns-clause-capacity : goal.returns-clause-capacity
returns-clause-capacity c = search rules

pub returns-clause-held : goal.returns-clause-held
returns-clause-held c = search rules

pub returns-clause-iterations : goal.returns-clause-iterations
returns-clause-iterations c = search rules

pub returns-clause-whole : goal.returns-clause-whole
returns-clause-whole c = search rules
