use Rattle.std.proofs.Common.{sym, ◌∙◌, inr}
use Rattle.dag_json.specs.Floats.{number_in}
use Rattle.dag_json.specs.ReadMachine.{as_integer}
use Rattle.dag_json.proofs.Building.{adds_not}
use Rattle.dag_json.proofs.tree.TreeBuilder.add_number.Goals as goal

pub returns-then-not-takes_value : goal.returns-then-not-takes_value
returns-then-not-takes_value c = inr (adds_not c.args.limits.now (as_integer (number_in c.args.floats c.args.text.now)) c.args.self.now (sym c.takes_value.ensures ∙ c.if-not-takes_value.true))
