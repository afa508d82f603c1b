use Rattle.ipld_cid.proofs.Sentences.{then_styled}
use Rattle.dag_json.proofs.tape.JsonTapeErrorDisplay.fmt.Goals as goal

pub returns-in_ok-write_str-in-Text-clause-styled : goal.returns-in_ok-write_str-in-Text-clause-styled
returns-in_ok-write_str-in-Text-clause-styled g c =
    rw c.in-Text.is (then_styled _ (rw c.sentence.ensures at c.in_ok-write_str-in-Text.ensures.styled) c.write_number.ensures.styled)
