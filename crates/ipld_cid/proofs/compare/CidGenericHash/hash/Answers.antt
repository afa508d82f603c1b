use Rattle.std.proofs.Common.{rules}
use Rattle.ipld_cid.proofs.compare.CidGenericHash.hash.Goals as goal

pub returns : goal.returns
returns g c = search rules
