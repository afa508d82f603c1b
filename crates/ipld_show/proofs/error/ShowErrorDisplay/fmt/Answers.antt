use Rattle.ipld_cid.proofs.Sentences.{then_styled}
use Rattle.ipld_show.proofs.error.ShowErrorDisplay.fmt.Goals as goal

pub returns-in_ok-write_str-in-Cid-clause-styled : goal.returns-in_ok-write_str-in-Cid-clause-styled
returns-in_ok-write_str-in-Cid-clause-styled g c =
    rw (c.in-Cid.is) (then_styled _ c.in_ok-write_str-in-Cid.ensures.styled (rw c.sentence.ensures at c.fmt-in-Cid.ensures.styled))
