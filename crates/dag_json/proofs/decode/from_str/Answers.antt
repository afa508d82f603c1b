use Rattle.std.proofs.Common.{false}
use Rattle.dag_json.specs.Lemmas.Reading.{encodes_read, only_read}
use Rattle.dag_json.proofs.decode.from_str.Goals as goal

pub returns-clause-found : goal.returns-clause-found
returns-clause-found c = encodes_read false c.args.limits.now c.args.text.now c.read_text.result c.utf8.text c.read_text.ensures.exact

pub returns-clause-only : goal.returns-clause-only
returns-clause-only c = only_read false c.args.limits.now c.args.text.now c.read_text.result c.read_text.ensures.exact
