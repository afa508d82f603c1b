use Rattle.pb_wire.proofs.Written.{number_written, content_written, fixed32_written}
use Rattle.pb_wire.proofs.laws.writing_law.Goals as goal

pub returns : goal.returns
returns c = record { number = number_written; content = content_written; fixed32 = fixed32_written }
