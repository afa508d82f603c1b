use Rattle.std.proofs.Common.{arith}
use Rattle.std.proofs.lemmas.Grind.{common_steps}
use Rattle.ipld_codec.proofs.fault_reader.FaultReader.new.Goals as goal

pub returns : goal.returns
returns c = grind (arith, common_steps)
