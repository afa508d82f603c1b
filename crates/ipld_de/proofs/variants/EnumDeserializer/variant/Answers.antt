use Rattle.std.proofs.Common.{rules}
use Rattle.ipld_de.proofs.variants.EnumDeserializer.variant.Goals as goal

pub returns : goal.returns
returns c = search rules
