use Rattle.dag_cbor.proofs.Building.{takes_null}
use Rattle.dag_cbor.proofs.tree.TreeBuilder.add_null.Goals as goal

pub returns : goal.returns
returns c = takes_null c.args.self.now c.add.new.self c.add.result c.add.ensures
