use Rattle.ipld_cid.proofs.Sentences.{then_styled}
use Rattle.ipld_block.proofs.error.InvalidBlockDisplay.fmt.Goals as goal

pub returns-in_ok-write_str-in-Cbor-clause-styled : goal.returns-in_ok-write_str-in-Cbor-clause-styled
returns-in_ok-write_str-in-Cbor-clause-styled g c =
    rw (c.in-Cbor.is) (then_styled _ c.in_ok-write_str-in-Cbor.ensures.styled c.fmt.ensures.styled)

pub returns-in_ok-write_str-in-Pb-clause-styled : goal.returns-in_ok-write_str-in-Pb-clause-styled
returns-in_ok-write_str-in-Pb-clause-styled g c =
    rw (c.in-Pb.is) (then_styled _ c.in_ok-write_str-in-Pb.ensures.styled c.fmt-in-Pb.ensures.styled)

pub returns-in_ok-write_str-in-Json-2-clause-styled : goal.returns-in_ok-write_str-in-Json-2-clause-styled
returns-in_ok-write_str-in-Json-2-clause-styled g c =
    let reason = rw c.sentence.ensures at c.in_ok-write_str-in-Json-2.ensures.styled in
    rw (c.in-Json.is) (then_styled _ c.in_ok-write_str-in-Json.ensures.styled (then_styled _ reason c.write_number.ensures.styled))
