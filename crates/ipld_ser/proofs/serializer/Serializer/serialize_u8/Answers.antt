use Rattle.std.proofs.Common.{rules}
use Rattle.ipld_ser.proofs.serializer.Serializer.serialize_u8.Goals as goal

pub returns : goal.returns
returns c = search rules
