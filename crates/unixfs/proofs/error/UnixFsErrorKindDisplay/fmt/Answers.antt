use Rattle.ipld_cid.proofs.Sentences.{then_written, then_styled}
use Rattle.unixfs.proofs.error.UnixFsErrorKindDisplay.fmt.Goals as goal

pub returns-in-UnknownField-clause-writes : goal.returns-in-UnknownField-clause-writes
returns-in-UnknownField-clause-writes g c =
    rw (c.in-UnknownField.is) (then_written _ c.in_ok-write_number-in-UnknownField.ensures.writes c.write_number-in-UnknownField.ensures.writes)

pub returns-in-UnknownField-clause-styled : goal.returns-in-UnknownField-clause-styled
returns-in-UnknownField-clause-styled g c =
    rw (c.in-UnknownField.is) (then_styled _ c.in_ok-write_number-in-UnknownField.ensures.styled c.write_number-in-UnknownField.ensures.styled)
