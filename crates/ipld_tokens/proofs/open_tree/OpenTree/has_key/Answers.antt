use Rattle.std.proofs.Common.{[], sym, ap, ◌∙◌}
use Rattle.ipld_tree.specs.TreeOf.{members_of}
use Rattle.ipld_tokens.specs.OpenTree.{inside, state_from, has_open_key}
use Rattle.ipld_tokens.proofs.OpenTrees.{has_text, has_text_in}
use Rattle.ipld_tokens.proofs.open_tree.OpenTree.has_key.Goals as goal

pub returns-in-Map : goal.returns-in-Map
returns-in-Map c =
    let b = c.args.self.now in
    let k = c.args.key.now in
    let ls = inside b.outer.items [] in
    let m = c.in-Map.map in
    sym (ap (λ x. has_open_key k (state_from x b.tree ls)) c.in-Map.is ∙ has_text_in k (members_of m.members.entries) m.key ls ∙ has_text k m.members.entries ∙ sym c.contains_key.ensures)
