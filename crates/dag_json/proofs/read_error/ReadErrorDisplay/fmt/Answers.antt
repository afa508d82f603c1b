use Rattle.ipld_cid.proofs.Sentences.{then_styled}
use Rattle.dag_json.proofs.read_error.ReadErrorDisplay.fmt.Goals as goal

pub returns-clause-styled : goal.returns-clause-styled
returns-clause-styled g c = then_styled _ (rw c.sentence.ensures at c.in_ok-write_str.ensures.styled) c.write_number.ensures.styled
