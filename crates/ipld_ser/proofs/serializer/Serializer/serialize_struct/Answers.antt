use Rattle.std.proofs.Common.{rules}
use Rattle.ipld_ser.proofs.serializer.Serializer.serialize_struct.Goals as goal

pub returns-clause-empty : goal.returns-clause-empty
returns-clause-empty c = search rules

pub returns-clause-no_key : goal.returns-clause-no_key
returns-clause-no_key c = search rules
