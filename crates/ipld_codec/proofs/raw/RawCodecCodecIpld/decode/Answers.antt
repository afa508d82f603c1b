use Rattle.std.proofs.Common.{rules}
use Rattle.ipld_codec.proofs.raw.RawCodecCodecIpld.decode.Goals as goal

pub returns-clause-read_out : goal.returns-clause-read_out
returns-clause-read_out g c = search rules

pub returns-clause-err : goal.returns-clause-err
returns-clause-err g c = search rules

pub returns-clause-errors : goal.returns-clause-errors
returns-clause-errors g c = search rules
