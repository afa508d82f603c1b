use Rattle.std.proofs.Common.{◌∙◌}
use Rattle.dag_json.proofs.Building.{unfinished}
use Rattle.dag_json.proofs.tree.TreeBuilder.is_unfinished.Goals as goal

pub returns : goal.returns
returns c = c.is_open.ensures ∙ unfinished c.args.self.now
