use Rattle.std.proofs.Common.{rules}
use Rattle.ipld_de.proofs.map.MapDeserializer.size_hint.Goals as goal

pub returns : goal.returns
returns c = search rules
