use Rattle.ipld_tree.specs.TreeOf.{tree_of}
use Rattle.ipld_tokens.specs.ReadMachine.{completed, PutsValue}
use Rattle.ipld_tokens.specs.OpenTree as building
use Rattle.dag_cbor.specs.Building.{levels_of, state_of}
use Rattle.dag_cbor.proofs.Building.{settles}
use Rattle.dag_cbor.proofs.tree.TreeBuilder.add.Goals as goal

pub returns : goal.returns
returns c =
    let ls = levels_of c.args.self.now in
    settles (PutsValue ls) (completed (tree_of c.args.value) ls) (building.state_of c.put-built.new.self) (state_of c.settle.new.self) c.put-built.result c.settle.result c.put-built.ensures c.settle.ensures
