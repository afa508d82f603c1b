use Rattle.std.proofs.Common.{◌≡◌, drop}
use Rattle.std.specs.Slice.Iter.{iter_rest}
use Rattle.ipld_tree.specs.TreeOf.{items_of, members_of}
use Rattle.ipld_tree.specs.Equal.{items_eq, members_eq}
use Rattle.ipld_tree.proofs.equality.+same.Given as goal

abbrev pub invariant-equal_items-loop-item : goal.invariant-equal_items-loop-item
invariant-equal_items-loop-item l = items_eq (items_of l.a) (items_of l.b) ≡ items_eq (items_of (drop l.item-index l.a)) (items_of (iter_rest l.others))

abbrev pub invariant-equal_members-loop-key : goal.invariant-equal_members-loop-key
invariant-equal_members-loop-key l = members_eq (members_of l.a.entries) (members_of l.b.entries) ≡ members_eq (members_of l.key-iterator) (members_of l.others)
