use Rattle.std.proofs.Common.{◌∙◌}
use Rattle.ipld_tree.proofs.Looking.{parsed_as}
use Rattle.ipld_show.proofs.path.parse_index.Goals as goal

pub returns : goal.returns
returns c = c.ok.ensures.value ∙ parsed_as c.args.segment.now c.parse.result c.parse.ensures.value.0
