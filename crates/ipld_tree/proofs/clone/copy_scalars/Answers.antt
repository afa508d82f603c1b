use Rattle.std.proofs.Common.{ap, ◌∙◌}
use Rattle.ipld_tree.specs.Tree.{list}
use Rattle.ipld_tree.specs.TreeOf.{items_of}
use Rattle.ipld_tree.proofs.Copying.{copied_all}
use Rattle.ipld_tree.proofs.clone.copy_scalars.Goals as goal

pub returns : goal.returns
returns c =
    copied_all c.deref-item-items.result.now _ c.finish.result _ c.finish.ensures c.loop-item.invariant.so_far c.loop-item-test.false
    ∙ ap (λ xs. list (items_of xs)) c.deref-item-items.ensures.value
