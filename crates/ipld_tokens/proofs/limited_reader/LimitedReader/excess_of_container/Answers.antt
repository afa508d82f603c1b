use Rattle.std.proofs.Common.{◌∙◌, arith}
use Rattle.ipld_tokens.specs.ReaderState.{levels_of}
use Rattle.ipld_tokens.proofs.LimitReading.{container_within, container_beyond}
use Rattle.ipld_tokens.proofs.limited_reader.LimitedReader.excess_of_container.Goals as goal

pub returns-then-depth-self-clause-excess : goal.returns-then-depth-self-clause-excess
returns-then-depth-self-clause-excess c =
    let reader = c.args.self.now in
    c.excess_of_value.ensures.excess ∙ container_within reader.limits (levels_of reader.reader) c.depth.result reader.values c.depth.ensures (omega (arith, c.if-depth-self.true))

pub returns-else-depth-self-clause-excess : goal.returns-else-depth-self-clause-excess
returns-else-depth-self-clause-excess c =
    let reader = c.args.self.now in
    container_beyond reader.limits (levels_of reader.reader) c.depth.result reader.values c.depth.ensures (omega (arith, c.if-depth-self.false))
