use Rattle.std.proofs.Common.{rules}
use Rattle.ipld_codec.proofs.fault_reader.FaultReaderBufRead.consume.Goals as goal

pub returns-clause-bytes : goal.returns-clause-bytes
returns-clause-bytes c = search rules

pub returns-clause-rest : goal.returns-clause-rest
returns-clause-rest c = search rules
