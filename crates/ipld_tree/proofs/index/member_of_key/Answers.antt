use Rattle.std.proofs.Common.{option_map, ap, ◌∙◌}
use Rattle.ipld_tree.specs.TreeOf.{tree_of}
use Rattle.ipld_tree.proofs.Looking.{of_ref, looked_up}
use Rattle.ipld_tree.proofs.index.member_of_key.Goals as goal

pub returns : goal.returns
returns c = of_ref c.get.result ∙ ap (option_map tree_of) c.get.ensures.value ∙ looked_up c.args.key.now c.args.members.now.entries
