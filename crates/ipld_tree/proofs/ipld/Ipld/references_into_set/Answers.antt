use Rattle.std.proofs.Common.{is_ok, ap, ◌∙◌, ◌++◌, map}
use Rattle.ipld_cid.specs.LinkOf.{link_of}
use Rattle.ipld_tree.specs.TreeOf.{tree_of}
use Rattle.ipld_tree.specs.Levels.{trees_left}
use Rattle.ipld_tree.specs.Growing.{levels_in}
use Rattle.ipld_tree.specs.Walk.{links_among, own_link, links_of}
use Rattle.ipld_tree.proofs.Linking.{set_stopped, set_went_on, not_ok}
use Rattle.ipld_tree.proofs.ipld.Ipld.references_into_set.Goals as goal

pub returns-in_err-insert_link : goal.returns-in_err-insert_link
returns-in_err-insert_link c =
    let step = rw c.in-Some.is at c.in_ok-value.ensures in
    set_stopped c.args.set.now c.loop-walk.set c.insert_link.new.set c.loop-walk.invariant.added (links_of (tree_of c.args.self.now))
    (own_link (tree_of c.in-Some.value.now)) (links_among (trees_left (levels_in c.next.new.self))) _ _
    c.loop-walk.invariant.inserted
    (c.loop-walk.invariant.beginning ∙ ap (λ ts. map link_of c.loop-walk.invariant.added ++ links_among ts) step.0)
    c.insert_link.ensures (not_ok _ c.from_residual-in_err-insert_link.ensures.0)

pub loop-walk-preserved : goal.loop-walk-preserved
loop-walk-preserved c =
    let step = rw c.in-Some.is at c.in_ok-value.ensures in
    let more = set_went_on c.args.set.now c.loop-walk.set c.insert_link.new.set c.loop-walk.invariant.added (links_of (tree_of c.args.self.now))
    (own_link (tree_of c.in-Some.value.now)) (links_among (trees_left (levels_in c.next.new.self))) _
    c.loop-walk.invariant.inserted
    (c.loop-walk.invariant.beginning ∙ ap (λ ts. map link_of c.loop-walk.invariant.added ++ links_among ts) step.0)
    c.insert_link.ensures (ap is_ok c.in_ok-insert_link.was) in
    record { added = more.0; inserted = more.1; beginning = more.2 }
