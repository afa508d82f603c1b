use Rattle.unixfs.proofs.Files.{ranged}
use Rattle.unixfs.proofs.laws.range_law.Goals as goal

pub returns : goal.returns
returns c = ranged c.parsed_law.ensures
