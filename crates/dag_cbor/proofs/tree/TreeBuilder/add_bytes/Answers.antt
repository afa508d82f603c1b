use Rattle.dag_cbor.proofs.Building.{takes_bytes}
use Rattle.dag_cbor.proofs.tree.TreeBuilder.add_bytes.Goals as goal

pub returns : goal.returns
returns c = takes_bytes c.args.self.now c.add.new.self c.add.result c.in_ok-bytes.bytes c.args.content.now c.in_ok-bytes.ensures.items c.add.ensures
