use Rattle.std.proofs.Common.{rules}
use Rattle.ipld_de.proofs.deserializer.IpldDeserializer.deserialize_i16.Goals as goal

pub returns : goal.returns
returns c = search rules
