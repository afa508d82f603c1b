use Rattle.std.proofs.Common.{refl}
use Rattle.unixfs.specs.Files.{everything}
use Rattle.unixfs.proofs.Files.{walked}
use Rattle.unixfs.proofs.laws.walk_law.Goals as goal

pub returns : goal.returns
returns c = λ hashing root taken rest remain left walk all. walked hashing root everything taken rest remain left refl walk all
