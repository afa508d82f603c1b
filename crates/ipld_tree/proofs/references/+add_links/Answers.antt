use Rattle.std.proofs.Common.{map, ◌++◌, ap, ◌∙◌, is_ok, subst}
use Rattle.std.specs.Map.{values_of}
use Rattle.std.specs.Slice.Iter.{iter_rest}
use Rattle.ipld_cid.specs.LinkOf.{link_of}
use Rattle.ipld_tree.specs.Appended.{Appends}
use Rattle.ipld_tree.specs.Levels.{walks}
use Rattle.ipld_tree.specs.TreeOf.{tree_of}
use Rattle.ipld_tree.specs.Walk.{links_among, links_of}
use Rattle.ipld_tree.proofs.Linking.{stopped, went_on, not_ok, links_first, links_of_list, links_of_map}
use Rattle.ipld_tree.proofs.references.+add_links.Goals as goal

pub add_links-returns-in-Some : goal.add_links-returns-in-Some
add_links-returns-in-Some t c =
    subst (λ ls. Appends c.args.set.now.items c.add_links_of_items.new.set.items ls (is_ok c.add_links_of_items.result))
    (links_of_list c.args.value.now c.in-List.items _ c.in-List.is (c.iter.ensures.rest ∙ c.deref.ensures.value))
    c.add_links_of_items.ensures

pub add_links-returns-in-Some-checked_sub : goal.add_links-returns-in-Some-checked_sub
add_links-returns-in-Some-checked_sub t c =
    subst (λ ls. Appends c.args.set.now.items c.add_links_of_members.new.set.items ls (is_ok c.add_links_of_members.result))
    (links_of_map c.args.value.now c.in-Map.members c.in-Map.is)
    c.add_links_of_members.ensures

pub add_links_of_items-loop-item-preserved : goal.add_links_of_items-loop-item-preserved
add_links_of_items-loop-item-preserved t c =
    let so_far = c.loop-item.invariant in
    let x = c.in-Some.item.now in
    let left = iter_rest c.next.new.self in
    let more = went_on c.args.set.now.items c.loop-item.set.items c.add_links.new.set.items so_far.added (links_among (walks (iter_rest c.args.items))) (links_of (tree_of x)) (links_among (walks left)) _ so_far.appended
    (so_far.beginning ∙ ap (λ ls. map link_of so_far.added ++ ls) (ap (λ xs. links_among (walks xs)) c.in-Some.ensures.steps ∙ links_first x left))
    c.add_links.ensures (ap is_ok c.in_ok-add_links.was) in
    record { added = more.0; appended = more.1; beginning = more.2 }

pub add_links_of_items-returns-in_err-add_links : goal.add_links_of_items-returns-in_err-add_links
add_links_of_items-returns-in_err-add_links t c =
    let so_far = c.loop-item.invariant in
    let x = c.in-Some.item.now in
    let left = iter_rest c.next.new.self in
    stopped c.args.set.now.items c.loop-item.set.items c.add_links.new.set.items so_far.added (links_among (walks (iter_rest c.args.items))) (links_of (tree_of x)) (links_among (walks left)) _ _ so_far.appended
    (so_far.beginning ∙ ap (λ ls. map link_of so_far.added ++ ls) (ap (λ xs. links_among (walks xs)) c.in-Some.ensures.steps ∙ links_first x left))
    c.add_links.ensures (not_ok _ c.from_residual.ensures.0)

pub add_links_of_members-loop-member-preserved : goal.add_links_of_members-loop-member-preserved
add_links_of_members-loop-member-preserved t c =
    let so_far = c.loop-member.invariant in
    let x = c.in-Some.member.now in
    let left = c.next.new.self in
    let more = went_on c.args.set.now.items c.loop-member.set.items c.add_links.new.set.items so_far.added (links_among (walks (values_of c.args.members.now.entries))) (links_of (tree_of x)) (links_among (walks left)) _ so_far.appended
    (so_far.beginning ∙ ap (λ ls. map link_of so_far.added ++ ls) (ap (λ xs. links_among (walks xs)) c.in-Some.ensures.steps ∙ links_first x left))
    c.add_links.ensures (ap is_ok c.in_ok-add_links.was) in
    record { added = more.0; appended = more.1; beginning = more.2 }

pub add_links_of_members-returns-in_err-add_links : goal.add_links_of_members-returns-in_err-add_links
add_links_of_members-returns-in_err-add_links t c =
    let so_far = c.loop-member.invariant in
    let x = c.in-Some.member.now in
    let left = c.next.new.self in
    stopped c.args.set.now.items c.loop-member.set.items c.add_links.new.set.items so_far.added (links_among (walks (values_of c.args.members.now.entries))) (links_of (tree_of x)) (links_among (walks left)) _ _ so_far.appended
    (so_far.beginning ∙ ap (λ ls. map link_of so_far.added ++ ls) (ap (λ xs. links_among (walks xs)) c.in-Some.ensures.steps ∙ links_first x left))
    c.add_links.ensures (not_ok _ c.from_residual.ensures.0)
