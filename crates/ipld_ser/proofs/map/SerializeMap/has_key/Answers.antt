use Rattle.std.proofs.Common.{rules}
use Rattle.ipld_ser.proofs.map.SerializeMap.has_key.Goals as goal

pub returns : goal.returns
returns c = search rules
