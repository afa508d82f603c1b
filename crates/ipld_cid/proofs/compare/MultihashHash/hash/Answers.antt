use Rattle.std.proofs.Common.{rules}
use Rattle.ipld_cid.proofs.compare.MultihashHash.hash.Goals as goal

pub returns : goal.returns
returns g c = search rules
