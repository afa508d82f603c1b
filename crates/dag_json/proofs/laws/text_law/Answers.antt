use Rattle.dag_json.proofs.Texts.{is_json}
use Rattle.dag_json.proofs.laws.text_law.Goals as goal

pub returns : goal.returns
returns c = is_json
