use Rattle.unixfs_build.proofs.Entries.{too_long}
use Rattle.unixfs_build.proofs.entry.are_longer.Goals as goal

pub returns-in-None : goal.returns-in-None
returns-in-None c =
    too_long c.args.entries.now c.entry-item.result _ c.loop-entry.entry-index c.args.above c.loop-entry.rest c.loop-entry-test.true c.entry-item.is c.loop-entry.invariant c.in-None.ensures
