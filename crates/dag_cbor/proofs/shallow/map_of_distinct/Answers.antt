use Rattle.std.proofs.Common.{rules}
use Rattle.dag_cbor.proofs.Collected.{collected}
use Rattle.dag_cbor.proofs.shallow.map_of_distinct.Goals as goal

pub returns : goal.returns
returns c = collected c.args.entries.items c.in_ok-members.members c.in_ok-members.ensures (search rules)
