use Rattle.std.proofs.Common.{arith, rules}
use Rattle.std.proofs.lemmas.Grind.{common_steps}
use Rattle.ipld_codec.proofs.fault_reader.FaultReaderRead.read.Goals as goal

pub returns-clause-bound : goal.returns-clause-bound
returns-clause-bound c = search rules

pub returns-clause-bytes : goal.returns-clause-bytes
returns-clause-bytes c = search rules

pub returns-clause-front : goal.returns-clause-front
returns-clause-front c = grind (arith, common_steps)

pub returns-clause-kind : goal.returns-clause-kind
returns-clause-kind c = search rules
