use Rattle.std.proofs.Common.{◌≤◌, ◌+◌, ◌*◌}
use Rattle.ipld_tree.specs.TreeOf.{members_of}
use Rattle.ipld_tree.specs.Walk.{members_nest}
use Rattle.dag_cbor.proofs.FrontReads.{ListLeft, MapLeft, EntriesLeft}
use Rattle.dag_cbor.proofs.shallow.+shallow.Given as goal

abbrev pub decreases-read_content : goal.decreases-read_content
decreases-read_content l = 4 * l.levels + 1

abbrev pub decreases-add_content : goal.decreases-add_content
decreases-add_content l = 4 * l.levels + 2

abbrev pub decreases-add_item : goal.decreases-add_item
decreases-add_item l = 4 * l.levels + 3

abbrev pub decreases-add_entry : goal.decreases-add_entry
decreases-add_entry l = 4 * l.levels + 2

abbrev pub decreases-read_list : goal.decreases-read_list
decreases-read_list l = 4 * l.levels

abbrev pub decreases-read_map : goal.decreases-read_map
decreases-read_map l = 4 * l.levels

abbrev pub invariant-read_list-loop-left : goal.invariant-read_list-loop-left
invariant-read_list-loop-left l = ListLeft l.inner l.count l.bytes l.items.items l.left l.rest

abbrev pub decreases-read_list-loop-left : goal.decreases-read_list-loop-left
decreases-read_list-loop-left l = l.left

abbrev pub invariant-read_map-loop-left : goal.invariant-read_map-loop-left
invariant-read_map-loop-left l =
    record {
      flat : members_nest (members_of l.members.entries) ≤ l.inner;
      left : MapLeft l.count l.bytes (members_of l.members.entries) l.left l.rest;
    }

abbrev pub decreases-read_map-loop-left : goal.decreases-read_map-loop-left
decreases-read_map-loop-left l = l.left

abbrev pub decreases-read_large_map : goal.decreases-read_large_map
decreases-read_large_map l = 4 * l.levels

abbrev pub decreases-push_entry : goal.decreases-push_entry
decreases-push_entry l = 4 * l.levels + 2

abbrev pub invariant-read_large_map-loop-left : goal.invariant-read_large_map-loop-left
invariant-read_large_map-loop-left l = EntriesLeft l.inner l.count l.bytes l.entries.items l.left l.rest

abbrev pub decreases-read_large_map-loop-left : goal.decreases-read_large_map-loop-left
decreases-read_large_map-loop-left l = l.left
