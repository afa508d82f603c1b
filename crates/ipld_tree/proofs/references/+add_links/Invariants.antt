use Rattle.std.proofs.Common.{◌≡◌, ◌+◌, ◌*◌, ◌++◌, List, map}
use Rattle.std.specs.Map.{values_of}
use Rattle.std.specs.Slice.Iter.{iter_rest}
use Rattle.ipld_cid.specs.LinkOf.{link_of}
use Rattle.ipld_cid.specs.declared.cid.CidGeneric.{CidGeneric}
use Rattle.ipld_tree.specs.Levels.{walks}
use Rattle.ipld_tree.specs.Walk.{links_among}
use Rattle.ipld_tree.proofs.references.+add_links.Given as goal

abbrev pub decreases-add_links : goal.decreases-add_links
decreases-add_links l = 2 * l.levels

abbrev pub decreases-add_links_of_items : goal.decreases-add_links_of_items
decreases-add_links_of_items l = 2 * l.levels + 1

abbrev pub decreases-add_links_of_members : goal.decreases-add_links_of_members
decreases-add_links_of_members l = 2 * l.levels + 1

abbrev pub invariant-add_links_of_items-loop-item : goal.invariant-add_links_of_items-loop-item
invariant-add_links_of_items-loop-item l =
    record {
      added : List (CidGeneric 64);
      appended : l.set.items ≡ l.fn.set.items ++ added;
      beginning : links_among (walks (iter_rest l.fn.items)) ≡ map link_of added ++ links_among (walks (iter_rest l.item-iterator));
    }

abbrev pub invariant-add_links_of_members-loop-member : goal.invariant-add_links_of_members-loop-member
invariant-add_links_of_members-loop-member l =
    record {
      added : List (CidGeneric 64);
      appended : l.set.items ≡ l.fn.set.items ++ added;
      beginning : links_among (walks (values_of l.members.entries)) ≡ map link_of added ++ links_among (walks l.member-iterator);
    }
