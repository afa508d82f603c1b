use Rattle.std.specs.Int.{w128}
use Rattle.std.proofs.lemmas.Int.{to_z-of_z}
use Rattle.ipld_tokens.specs.OpenTree as building
use Rattle.dag_cbor.specs.Building.{levels_of, state_of}
use Rattle.dag_cbor.proofs.Building.{settles_integer}
use Rattle.dag_cbor.proofs.tree.TreeBuilder.add_integer.Goals as goal

pub returns : goal.returns
returns c =
    settles_integer c.args.number _ (to_z-of_z w128 c.args.number c.ranges.number) (levels_of c.args.self.now) (building.state_of c.put_integer-built.new.self) (state_of c.settle.new.self)
    c.put_integer-built.result c.settle.result c.put_integer-built.ensures c.settle.ensures
