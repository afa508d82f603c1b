use Rattle.std.proofs.Common.{◌+◌}
use Rattle.std.specs.Prelude.{sum}
use Rattle.unixfs_files.proofs.Totals.{ended, without}
use Rattle.unixfs_files.proofs.part.total.Goals as goal

pub returns : goal.returns
returns c =
    ended c.loop-size.total (c.args.head + sum c.args.sizes.now) c.loop-size.rest.now (without c.split_first.result _ _ c.in_default.not-Some c.split_first.ensures.cases) c.loop-size.invariant.fits c.loop-size.invariant.same
