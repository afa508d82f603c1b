use Rattle.std.proofs.Common.{rules}
use Rattle.ipld_cid.proofs.cid.CidGeneric.version.Goals as goal

pub returns : goal.returns
returns g c = search rules
