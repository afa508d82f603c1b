use Rattle.std.proofs.Common.{◌≡◌, take, map, vec_len}
use Rattle.ipld_tree.specs.Builders.{items_so_far, items_capacity}
use Rattle.ipld_tree.specs.TreeOf.{tree_of}
use Rattle.ipld_tree.proofs.clone.copy_scalars.Given as goal

abbrev pub invariant-loop-item : goal.invariant-loop-item
invariant-loop-item l =
    record {
      so_far : map tree_of (items_so_far l.copies) ≡ map tree_of (take l.item-index l.item-items);
      length : vec_len l.copies.items ≡ l.item-index;
      capacity : items_capacity l.copies ≡ vec_len l.items;
    }
