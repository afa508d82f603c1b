use Rattle.std.proofs.Common.{◌≡◌, [], ◌∷◌, ◌++◌, sym, ap, ◌∙◌, append_assoc}
use Rattle.ipld_tree.specs.Builders.{members_so_far}
use Rattle.ipld_tree.specs.Tree.{list}
use Rattle.ipld_tree.specs.Put.{put}
use Rattle.ipld_tree.specs.TreeOf.{tree_of, items_of}
use Rattle.ipld_tree.proofs.Copying.{copied_all}
use Rattle.ipld_tree.proofs.Entries.{Entry, copied_more}
use Rattle.ipld_tree.proofs.clone.+copied.Goals as goal

pub copy_map-loop-key-preserved : goal.copy_map-loop-key-preserved
copy_map-loop-key-preserved t c =
    let l = c.loop-key in
    let done = l.invariant.done in
    let e : Entry = (c.in-Some.key.now, c.in-Some.member.now) in
    let left = c.next.new.self in
    let split : c.args.members.now.entries ≡ done ++ e ∷ left = l.invariant.split ∙ ap (λ es. done ++ es) c.in-Some.ensures.steps in
    record {
      done = done ++ e ∷ [];
      split = split ∙ sym (append_assoc done (e ∷ []) left);
      same = copied_more c.args.members.now.entries done e left l.copies.members.entries c.put.new.self.members.entries c.in-Ok.copy split c.iter-key-items.ensures.ordered
          l.invariant.same c.in-Ok.ensures.copy
          (c.in_ok-put-in-Ok.ensures.ok ∙ ap (λ k. put k (tree_of c.in-Ok.copy) (members_so_far l.copies)) (c.in_ok-name.ensures.ok ∙ c.deref.ensures));
    }

pub copy_list-returns : goal.copy_list-returns
copy_list-returns t c =
    copied_all c.deref-item-items.result.now _ c.finish.result _ c.finish.ensures c.loop-item.invariant.so_far c.loop-item-test.false
    ∙ ap (λ xs. list (items_of xs)) c.deref-item-items.ensures.value
