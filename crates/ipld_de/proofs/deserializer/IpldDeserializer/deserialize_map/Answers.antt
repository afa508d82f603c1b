use Rattle.std.proofs.Common.{rules}
use Rattle.ipld_de.proofs.deserializer.IpldDeserializer.deserialize_map.Goals as goal

pub returns-clause-content : goal.returns-clause-content
returns-clause-content c = search rules

pub returns-clause-none : goal.returns-clause-none
returns-clause-none c = search rules

pub returns-clause-ascends : goal.returns-clause-ascends
returns-clause-ascends c = search rules
