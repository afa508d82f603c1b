use Rattle.std.proofs.Common.{◌+◌, ◌*◌}
use Rattle.dag_cbor_blocks.proofs.Switches.{is_on}
use Rattle.dag_cbor_blocks.proofs.ShallowVisits.{ListLeft, MapLeft}
use Rattle.dag_cbor_blocks.proofs.shallow.+visiting.Given as goal

abbrev pub decreases-visit_item : goal.decreases-visit_item
decreases-visit_item g l = 2 * l.levels + 1

abbrev pub decreases-visit_list : goal.decreases-visit_list
decreases-visit_list g l = 2 * l.levels

abbrev pub decreases-visit_map : goal.decreases-visit_map
decreases-visit_map g l = 2 * l.levels

abbrev pub invariant-visit_list-loop-left : goal.invariant-visit_list-loop-left
invariant-visit_list-loop-left g l = ListLeft (is_on g.row.FLOATS) g.V.Visitor.answer l.inner l.initial.visitor l.visitor l.count l.bytes l.left l.rest

abbrev pub decreases-visit_list-loop-left : goal.decreases-visit_list-loop-left
decreases-visit_list-loop-left g l = l.left

abbrev pub invariant-visit_map-loop-left : goal.invariant-visit_map-loop-left
invariant-visit_map-loop-left g l = MapLeft (is_on g.row.FLOATS) g.V.Visitor.answer l.inner l.initial.visitor l.visitor l.count l.bytes l.last l.left l.rest

abbrev pub decreases-visit_map-loop-left : goal.decreases-visit_map-loop-left
decreases-visit_map-loop-left g l = l.left
