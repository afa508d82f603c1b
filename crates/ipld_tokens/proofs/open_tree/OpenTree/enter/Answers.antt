use Rattle.std.proofs.Common.{[], ◌∷◌, ◌++◌, ap, ◌∙◌}
use Rattle.ipld_tokens.specs.OpenTree.{inside, state_from}
use Rattle.ipld_tokens.proofs.OpenTrees.{entered}
use Rattle.ipld_tokens.proofs.open_tree.OpenTree.enter.Goals as goal

pub returns-in-Ok : goal.returns-in-Ok
returns-in-Ok c =
    let b = c.args.self.now in
    let outer = c.push.new.self.items in
    ap (λ x. state_from x b.tree (inside outer [])) c.replace-around.ensures.after
    ∙ entered c.args.container b.innermost b.tree b.outer.items outer c.requires.opens (c.in-Ok.ensures.items ∙ ap (λ x. b.outer.items ++ x ∷ []) c.replace-around.ensures.value)
