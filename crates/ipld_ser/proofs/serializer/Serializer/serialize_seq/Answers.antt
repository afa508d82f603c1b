use Rattle.std.proofs.Common.{rules}
use Rattle.ipld_ser.proofs.serializer.Serializer.serialize_seq.Goals as goal

pub returns-clause-empty : goal.returns-clause-empty
returns-clause-empty c = search rules

pub returns-clause-capacity : goal.returns-clause-capacity
returns-clause-capacity c = search rules

pub returns-clause-err : goal.returns-clause-err
returns-clause-err c = search rules
