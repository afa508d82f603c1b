use Rattle.ipld_cid.proofs.Sentences.{then_styled}
use Rattle.ipld_ser.proofs.error.SerdeSentenceDisplay.fmt.Goals as goal

pub returns-in-InvalidCid-clause-styled : goal.returns-in-InvalidCid-clause-styled
returns-in-InvalidCid-clause-styled g c =
    rw (c.in-InvalidCid.is) (then_styled _ c.in_ok-write_str-in-InvalidCid.ensures.styled (rw c.sentence.ensures at c.fmt.ensures.styled))
