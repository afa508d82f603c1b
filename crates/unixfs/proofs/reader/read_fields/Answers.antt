use Rattle.unixfs.proofs.Messages.{fields_head}
use Rattle.unixfs.proofs.reader.read_fields.Goals as goal

pub returns-in_err-head-clause-no_sizes : goal.returns-in_err-head-clause-no_sizes
returns-in_err-head-clause-no_sizes c = λ d read none.
    let head = fields_head c.args.bytes.now d read none in
    let was = c.in_err-head.was in
    let bad = c.in_err-head.ensures.no_sizes head.0.0 head.0.1 head.1 head.2 in
    absurd cc
