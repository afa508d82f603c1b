use Rattle.std.proofs.Common.{rules}
use Rattle.ipld_codec.proofs.fault_writer.FaultWriter.new.Goals as goal

pub returns : goal.returns
returns c = search rules
