use Rattle.ipld_cid.proofs.Sentences.{then_styled}
use Rattle.unixfs.proofs.node.NodeErrorDisplay.fmt.Goals as goal

pub returns-in-Message-clause-styled : goal.returns-in-Message-clause-styled
returns-in-Message-clause-styled g c =
    rw (c.in-Message.is) (then_styled _ c.in_ok-write_str-in-Message.ensures.styled c.fmt-in-Message.ensures.styled)
