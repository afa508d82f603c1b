use Rattle.std.proofs.Common.{rules}
use Rattle.ipld_codec.proofs.fault_writer.FaultWriterWrite.write.Goals as goal

pub returns-clause-bound : goal.returns-clause-bound
returns-clause-bound c = search rules

pub returns-clause-bytes : goal.returns-clause-bytes
returns-clause-bytes c = search rules

pub returns-clause-takes : goal.returns-clause-takes
returns-clause-takes c = search rules

pub returns-clause-kind : goal.returns-clause-kind
returns-clause-kind c = search rules
