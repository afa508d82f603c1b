use Rattle.ipld_cid.proofs.Sentences.{then_written, then_styled}
use Rattle.dag_pb.proofs.error.PbErrorKindDisplay.fmt.Goals as goal

pub returns-in-Cid-clause-styled : goal.returns-in-Cid-clause-styled
returns-in-Cid-clause-styled g c =
    rw (c.in-Cid.is) (then_styled _ c.in_ok-write_str-in-Cid.ensures.styled (rw c.sentence.ensures at c.fmt.ensures.styled))

pub returns-in-UnknownField-clause-writes : goal.returns-in-UnknownField-clause-writes
returns-in-UnknownField-clause-writes g c =
    rw (c.in-UnknownField.is) (then_written _ c.in_ok-write_number-in-UnknownField.ensures.writes c.write_number-in-UnknownField.ensures.writes)

pub returns-in-UnknownField-clause-styled : goal.returns-in-UnknownField-clause-styled
returns-in-UnknownField-clause-styled g c =
    rw (c.in-UnknownField.is) (then_styled _ c.in_ok-write_number-in-UnknownField.ensures.styled c.write_number-in-UnknownField.ensures.styled)
