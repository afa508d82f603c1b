use Rattle.std.proofs.Common.{◌+◌, arith}
use Rattle.ipld_cid_text.proofs.Regrouping.{regroups_item, regroups_group, group_fits}
use Rattle.ipld_cid_text.proofs.regroup.regroup.Goals as goal

pub loop-count-init : goal.loop-count-init
loop-count-init g c =
    (rw c.append_group-rest.ensures (regroups_item g.row.FROM g.row.TO c.args.items.now c.loop-item.item-index c.loop-item.groups c.loop-item.rest c.loop-item.count c.loop-item.invariant.0 (omega arith) c.requires.below), omega (arith, c.loop-item.invariant.1, c.requires.to, c.requires.from))

pub overflow_cast-group : goal.overflow_cast-group
overflow_cast-group g c =
    let fits = group_fits g.row.TO c.loop-count.count c.loop-count.rest c.split_group-group.result.0 c.split_group-group.result.1 c.requires.to (omega arith) c.loop-count.invariant.0.small c.split_group-group.ensures.whole c.split_group-group.ensures.below in
    omega (arith, fits)

pub loop-count-preserved : goal.loop-count-preserved
loop-count-preserved g c = (
  regroups_group g.row.FROM g.row.TO c.args.items.now (c.loop-item.item-index + 1) c.loop-count.groups c.push.new.self c.loop-count.rest c.loop-count.count c.split_group-group.result.0 c.split_group-group.result.1
      c.loop-count.invariant.0 (omega arith) c.split_group-group.ensures.whole c.split_group-group.ensures.below c.push.ensures,
  omega (arith, c.loop-count.invariant.1),
)
