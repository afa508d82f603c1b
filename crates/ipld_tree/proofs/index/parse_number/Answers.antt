use Rattle.ipld_tree.proofs.Looking.{parsed_as}
use Rattle.std.proofs.Common.{◌∙◌}
use Rattle.ipld_tree.proofs.index.parse_number.Goals as goal

pub returns : goal.returns
returns c = c.ok.ensures.value ∙ parsed_as c.args.text.now c.parse.result c.parse.ensures.value.0
