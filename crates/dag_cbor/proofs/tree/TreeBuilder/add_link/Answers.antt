use Rattle.dag_cbor.proofs.Building.{takes_link}
use Rattle.dag_cbor.proofs.tree.TreeBuilder.add_link.Goals as goal

pub returns : goal.returns
returns c = λ encoded read. takes_link c.args.self.now c.add.new.self c.add.result encoded c.args.cid read c.add.ensures
