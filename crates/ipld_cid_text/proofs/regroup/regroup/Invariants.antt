use Rattle.std.proofs.Common.{◌<◌, ◌+◌}
use Rattle.ipld_cid_text.proofs.Regrouping.{Regroups}
use Rattle.ipld_cid_text.proofs.regroup.regroup.Given as goal

abbrev pub invariant-loop-item : goal.invariant-loop-item
invariant-loop-item g l = Regroups g.row.FROM g.row.TO l.items l.item-index l.groups l.rest l.count × (l.count < g.row.TO)

abbrev pub invariant-loop-count : goal.invariant-loop-count
invariant-loop-count g l = Regroups g.row.FROM g.row.TO l.items (l.item-index + 1) l.groups l.rest l.count × (l.count < 16)

abbrev pub decreases-loop-count : goal.decreases-loop-count
decreases-loop-count g l = l.count
