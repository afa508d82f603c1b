use Rattle.std.proofs.Common.{◌≡◌, ◌+◌, ◌*◌, List, ◌++◌, take, map, vec_len, String, Global}
use Rattle.ipld_tree.specs.Builders.{items_so_far, items_capacity, members_so_far}
use Rattle.ipld_tree.specs.TreeOf.{tree_of, members_of}
use Rattle.ipld_tree.specs.declared.ipld.Ipld.{Ipld}
use Rattle.ipld_tree.proofs.clone.+copied.Given as goal

abbrev pub decreases-copy_within : goal.decreases-copy_within
decreases-copy_within l = 4 * l.levels

abbrev pub decreases-add_new_copy : goal.decreases-add_new_copy
decreases-add_new_copy l = 4 * l.levels + 1

abbrev pub decreases-add_copy : goal.decreases-add_copy
decreases-add_copy l = 4 * l.levels + 2

abbrev pub decreases-copy_list : goal.decreases-copy_list
decreases-copy_list l = 4 * l.levels + 3

abbrev pub decreases-copy_map : goal.decreases-copy_map
decreases-copy_map l = 4 * l.levels + 3

abbrev pub invariant-copy_list-loop-item : goal.invariant-copy_list-loop-item
invariant-copy_list-loop-item l =
    record {
      so_far : map tree_of (items_so_far l.copies) ≡ map tree_of (take l.item-index l.item-items);
      length : vec_len l.copies.items ≡ l.item-index;
      capacity : items_capacity l.copies ≡ vec_len l.items;
    }

abbrev pub invariant-copy_map-loop-key : goal.invariant-copy_map-loop-key
invariant-copy_map-loop-key l =
    record {
      done : List (String Global × Ipld);
      split : l.members.entries ≡ done ++ l.key-iterator;
      same : members_so_far l.copies ≡ members_of done;
    }
