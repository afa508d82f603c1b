use Rattle.std.proofs.Common.{◌-◌, arith, refl}
use Rattle.unixfs_files.proofs.Walks.{count_some, count_none}
use Rattle.unixfs_files.proofs.state.FileRange.count_in.Goals as goal

pub returns-in-Some : goal.returns-in-Some
returns-in-Some c =
    count_some c.args.self.now.length (c.args.size - c.args.self.now.start) c.in-Some.length c.min.result c.in-Some.is (omega (arith, c.min.ensures, c.saturating_sub-count.ensures))

pub returns-in-None : goal.returns-in-None
returns-in-None c = count_none c.args.self.now.length (c.args.size - c.args.self.now.start) c.saturating_sub-count.result c.in-None.is c.saturating_sub-count.ensures
