use Rattle.ipld_cid.proofs.Sentences.{then_styled}
use Rattle.unixfs.proofs.error.UnixFsErrorDisplay.fmt.Goals as goal

pub returns-clause-styled : goal.returns-clause-styled
returns-clause-styled g c = then_styled _ c.in_ok-fmt.ensures.styled c.write_number.ensures.styled
