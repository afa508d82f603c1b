use Rattle.std.proofs.Common.{◌≡◌, ◌∷◌, ◌++◌, [], map, ap, ◌∙◌}
use Rattle.std.proofs.lemmas.List.{map-append}
use Rattle.ipld_tree.specs.Tree.{entries}
use Rattle.ipld_tree.specs.TreeOf.{tree_of, members_of}
use Rattle.ipld_tree.specs.declared.ipld.Ipld.TheViews as variant
use Rattle.ipld_tree.proofs.Entries.{members_of_clones}
use Rattle.ipld_tree.proofs.Trees.{tree_of-Map}
use Rattle.ipld_tree.proofs.clone.add_flat_copy.Goals as goal

pub returns-clause-copy : goal.returns-clause-copy
returns-clause-copy c =
    let same : tree_of (variant.Map c.in_ok-copy.copy) ≡ entries (members_of c.args.members.now.entries) =
    tree_of-Map c.in_ok-copy.copy ∙ ap entries (members_of_clones c.args.members.now.entries c.in_ok-copy.copy.entries c.in_ok-copy.ensures.cases) in
    rw (c.push_reserved.ensures.items) (map-append tree_of c.args.copies.now.items (variant.Map c.in_ok-copy.copy ∷ []) ∙ ap (λ t. map tree_of c.args.copies.now.items ++ t ∷ []) same)
