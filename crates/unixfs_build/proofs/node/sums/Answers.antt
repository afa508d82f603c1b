use Rattle.unixfs_build.proofs.Sums.{over_size, over_total}
use Rattle.unixfs_build.proofs.node.sums.Goals as goal

pub returns-in_default : goal.returns-in_default
returns-in_default c =
    over_size c.args.parts.now c.args.last.now c.part-item.result _ c.loop-part.part-index c.loop-part.size c.loop-part-test.true c.part-item.is c.loop-part.invariant.0 c.in_default.ensures

pub returns-in_default-checked_add : goal.returns-in_default-checked_add
returns-in_default-checked_add c =
    over_total c.args.parts.now c.args.last.now c.part-item.result _ c.loop-part.part-index c.loop-part.total c.loop-part-test.true c.part-item.is c.loop-part.invariant.1 c.in_default-checked_add.ensures
