use Rattle.std.proofs.Common.{rules}
use Rattle.dag_cbor_format.proofs.head.read_four_bytes.Goals as goal

pub returns : goal.returns
returns c = search rules
