use Rattle.std.proofs.Common.{ap, ◌∙◌, ◌++◌, map, is_ok}
use Rattle.ipld_cid.specs.LinkOf.{link_of}
use Rattle.ipld_tree.specs.TreeOf.{tree_of}
use Rattle.ipld_tree.specs.Levels.{trees_left}
use Rattle.ipld_tree.specs.Growing.{levels_in}
use Rattle.ipld_tree.specs.Walk.{links_among, own_link, links_of}
use Rattle.ipld_tree.proofs.Linking.{stopped, went_on, not_ok}
use Rattle.ipld_tree.proofs.references.add_links_by_loop.Goals as goal

pub returns-in_err-add_link : goal.returns-in_err-add_link
returns-in_err-add_link c =
    let step = rw c.in-Some.is at c.in_ok-value.ensures in
    stopped c.args.set.now.items c.loop-walk.set.items c.add_link.new.set.items c.loop-walk.invariant.added (links_of (tree_of c.args.value.now))
    (own_link (tree_of c.in-Some.value.now)) (links_among (trees_left (levels_in c.next.new.self))) _ _
    c.loop-walk.invariant.appended
    (c.loop-walk.invariant.beginning ∙ ap (λ ts. map link_of c.loop-walk.invariant.added ++ links_among ts) step.0)
    c.add_link.ensures (not_ok _ c.from_residual-in_err-add_link.ensures.0)

pub loop-walk-preserved : goal.loop-walk-preserved
loop-walk-preserved c =
    let step = rw c.in-Some.is at c.in_ok-value.ensures in
    let more = went_on c.args.set.now.items c.loop-walk.set.items c.add_link.new.set.items c.loop-walk.invariant.added (links_of (tree_of c.args.value.now))
    (own_link (tree_of c.in-Some.value.now)) (links_among (trees_left (levels_in c.next.new.self))) _
    c.loop-walk.invariant.appended
    (c.loop-walk.invariant.beginning ∙ ap (λ ts. map link_of c.loop-walk.invariant.added ++ links_among ts) step.0)
    c.add_link.ensures (ap is_ok c.in_ok-add_link.was) in
    record { added = more.0; appended = more.1; beginning = more.2 }
