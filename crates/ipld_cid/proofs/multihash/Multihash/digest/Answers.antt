use Rattle.std.proofs.Common.{rules}
use Rattle.ipld_cid.proofs.multihash.Multihash.digest.Goals as goal

pub returns-clause-value : goal.returns-clause-value
returns-clause-value g c = search rules

pub returns-clause-known : goal.returns-clause-known
returns-clause-known g c = search rules
