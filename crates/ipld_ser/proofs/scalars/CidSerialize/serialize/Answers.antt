use Rattle.std.proofs.Common.{rules}
use Rattle.ipld_ser.proofs.scalars.CidSerialize.serialize.Goals as goal

pub returns-clause-err : goal.returns-clause-err
returns-clause-err c = search rules
