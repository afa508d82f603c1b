use Rattle.std.proofs.Common.{refl}
use Rattle.ipld_cid.proofs.Sentences.{then_styled}
use Rattle.ipld_cid.proofs.error.write_number.Goals as goal

pub returns-clause-styled : goal.returns-clause-styled
returns-clause-styled g c = then_styled _ c.in_ok-write_str.ensures.styled (rw c.format.ensures.text at c.write_str-2.ensures.styled)
