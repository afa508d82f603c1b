use Rattle.std.proofs.Common.{[], ◌∷◌, refl, sym, ap, ◌∙◌}
use Rattle.ipld_tree.specs.TreeOf.{items_of}
use Rattle.ipld_tokens.specs.ReadMachine.{in_list, open_at}
use Rattle.ipld_tokens.specs.OpenTree.{inside, state_from}
use Rattle.ipld_tokens.proofs.OpenTrees.{no_list}
use Rattle.ipld_tokens.proofs.open_tree.OpenTree.end_list.Goals as goal

pub returns-in-List : goal.returns-in-List
returns-in-List c =
    let b = c.args.self.now in
    ap (λ x. state_from x b.tree (inside b.outer.items [])) (sym c.leave.ensures.taken ∙ c.in-List.is)
    ∙ ap (λ xs. open_at (in_list (items_of xs) ∷ inside b.outer.items [])) (sym c.into_items.ensures.same)
    ∙ ap (λ ls. open_at (in_list (items_of c.into_items.result.items) ∷ ls)) (sym c.leave.ensures.around)

pub returns-in_default : goal.returns-in_default
returns-in_default c =
    let b = c.args.self.now in
    (refl, no_list b.innermost b.tree (inside b.outer.items []) (λ v is. c.in_default.not-List v (c.leave.ensures.taken ∙ is)))
