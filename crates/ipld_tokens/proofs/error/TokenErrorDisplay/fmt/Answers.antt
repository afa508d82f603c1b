use Rattle.ipld_cid.proofs.Sentences.{then_styled}
use Rattle.ipld_tokens.proofs.error.TokenErrorDisplay.fmt.Goals as goal

pub returns-in-Cid-clause-styled : goal.returns-in-Cid-clause-styled
returns-in-Cid-clause-styled g c =
    rw (c.in-Cid.is) (then_styled _ c.in_ok-write_str-in-Cid.ensures.styled (rw c.sentence.ensures at c.fmt.ensures.styled))
