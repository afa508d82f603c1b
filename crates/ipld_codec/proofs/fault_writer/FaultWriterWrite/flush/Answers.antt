use Rattle.std.proofs.Common.{rules}
use Rattle.ipld_codec.proofs.fault_writer.FaultWriterWrite.flush.Goals as goal

pub returns-clause-bytes : goal.returns-clause-bytes
returns-clause-bytes c = search rules

pub returns-clause-outcome : goal.returns-clause-outcome
returns-clause-outcome c = search rules

pub returns-clause-stays : goal.returns-clause-stays
returns-clause-stays c = search rules

pub returns-clause-kind : goal.returns-clause-kind
returns-clause-kind c = search rules
