use Rattle.std.proofs.Common.{[], ap, ◌∙◌}
use Rattle.ipld_tokens.specs.OpenTree.{around, inside}
use Rattle.ipld_tokens.proofs.OpenTrees.{levels_around}
use Rattle.ipld_tokens.proofs.open_tree.OpenTree.leave.Goals as goal

pub returns-in-Some-clause-around : goal.returns-in-Some-clause-around
returns-in-Some-clause-around c =
    let outer = c.pop.new.self.items in
    ap (λ x. around x (inside outer [])) c.replace.ensures.after ∙ levels_around c.in-Some.around c.args.self.now.outer.items outer c.in-Some.ensures.items
