use Rattle.ipld_tokens.specs.Token.{erase}
use Rattle.ipld_tokens.specs.ReaderState.{state_of}
use Rattle.ipld_tokens.proofs.LimitReading.{takes, alive}
use Rattle.ipld_tokens.proofs.limited_reader.LimitedReaderTokenConsumer.take.Goals as goal

pub returns-in-Ok : goal.returns-in-Ok
returns-in-Ok c =
    let old = c.args.self.now in
    let new = c.count.new.self in
    takes old.limits new.limits old.excess new.excess (state_of old.reader) old.values new.values (erase c.args.token.now) (state_of c.take.new.self) c.take.result c.in-Ok.field-0
    c.requires c.count.ensures.limits c.count.ensures.excess (alive c.take.new.self) c.in-Ok.ensures.counts (rw c.count.ensures.reader at c.take.ensures)
