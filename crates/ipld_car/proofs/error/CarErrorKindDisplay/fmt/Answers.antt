use Rattle.ipld_cid.proofs.Sentences.{then_written, then_styled}
use Rattle.ipld_car.proofs.error.CarErrorKindDisplay.fmt.Goals as goal

pub returns-in-Cid-clause-styled : goal.returns-in-Cid-clause-styled
returns-in-Cid-clause-styled g c =
    rw (c.in-Cid.is) (then_styled _ c.in_ok-write_str-in-Cid.ensures.styled (rw c.sentence.ensures at c.fmt.ensures.styled))

pub returns-in-ShortPayload-clause-writes : goal.returns-in-ShortPayload-clause-writes
returns-in-ShortPayload-clause-writes g c =
    rw (c.in-ShortPayload.is) (then_written _ c.in_ok-write_number-in-ShortPayload.ensures.writes c.write_number-in-ShortPayload.ensures.writes)

pub returns-in-ShortPayload-clause-styled : goal.returns-in-ShortPayload-clause-styled
returns-in-ShortPayload-clause-styled g c =
    rw (c.in-ShortPayload.is) (then_styled _ c.in_ok-write_number-in-ShortPayload.ensures.styled c.write_number-in-ShortPayload.ensures.styled)

pub returns-in-HeaderBlock-clause-styled : goal.returns-in-HeaderBlock-clause-styled
returns-in-HeaderBlock-clause-styled g c =
    rw (c.in-HeaderBlock.is) (then_styled _ c.in_ok-write_str-in-HeaderBlock.ensures.styled c.fmt-in-HeaderBlock.ensures.styled)
