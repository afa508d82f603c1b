use Rattle.dag_cbor.proofs.Building.{takes_bool}
use Rattle.dag_cbor.proofs.tree.TreeBuilder.add_bool.Goals as goal

pub returns : goal.returns
returns c = takes_bool c.args.self.now c.add.new.self c.add.result c.args.truth c.add.ensures
