use Rattle.std.proofs.Common.{rules}
use Rattle.ipld_ser.proofs.serializer.Serializer.serialize_str.Goals as goal

pub returns-clause-err : goal.returns-clause-err
returns-clause-err c = search rules
