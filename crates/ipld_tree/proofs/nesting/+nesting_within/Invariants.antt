use Rattle.std.proofs.Common.{◌≡◌, ◌≤◌, ◌+◌, ◌*◌, max}
use Rattle.std.specs.Map.{values_of}
use Rattle.std.specs.Slice.Iter.{iter_rest}
use Rattle.ipld_tree.specs.Levels.{deepest}
use Rattle.ipld_tree.specs.Cursors.{AllWhole}
use Rattle.ipld_tree.proofs.nesting.+nesting_within.Given as goal

abbrev pub decreases-nesting_within : goal.decreases-nesting_within
decreases-nesting_within l = 2 * l.levels + 1

abbrev pub decreases-list_nesting_within : goal.decreases-list_nesting_within
decreases-list_nesting_within l = 2 * l.levels

abbrev pub decreases-map_nesting_within : goal.decreases-map_nesting_within
decreases-map_nesting_within l = 2 * l.levels

abbrev pub invariant-list_nesting_within-loop-item : goal.invariant-list_nesting_within-loop-item
invariant-list_nesting_within-loop-item l =
    record {
      deep : max l.greatest (deepest (iter_rest l.item-iterator)) ≡ deepest (iter_rest l.fn.items);
      within : l.greatest ≤ l.inner;
      whole : AllWhole (iter_rest l.item-iterator) → AllWhole (iter_rest l.fn.items);
    }

abbrev pub invariant-map_nesting_within-loop-member : goal.invariant-map_nesting_within-loop-member
invariant-map_nesting_within-loop-member l =
    record {
      deep : max l.greatest (deepest l.member-iterator) ≡ deepest (values_of l.members.entries);
      within : l.greatest ≤ l.inner;
      whole : AllWhole l.member-iterator → AllWhole (values_of l.members.entries);
    }
