use Rattle.std.proofs.Common.{rules}
use Rattle.ipld_ser.proofs.bytes.ByteBuf.into_vec.Goals as goal

pub returns : goal.returns
returns c = search rules
