use Rattle.std.proofs.Common.{option_map, ap, ◌∙◌}
use Rattle.ipld_tree.specs.TreeOf.{tree_of}
use Rattle.ipld_tree.proofs.Looking.{looked_up}
use Rattle.ipld_tree.proofs.index.take_member_of_key.Goals as goal

pub returns : goal.returns
returns c = ap (option_map tree_of) c.remove-value.ensures.value ∙ looked_up c.args.key.now c.args.members.entries
