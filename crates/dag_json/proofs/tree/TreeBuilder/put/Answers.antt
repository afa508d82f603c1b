use Rattle.ipld_tree.specs.TreeOf.{tree_of}
use Rattle.ipld_tokens.specs.ReadMachine as reading
use Rattle.ipld_tokens.specs.ReadMachine.{PutsValue}
use Rattle.ipld_tokens.specs.OpenTree as building
use Rattle.dag_json.specs.Building.{levels_of}
use Rattle.dag_json.specs.ReadMachine.{completed}
use Rattle.dag_json.proofs.Building.{completed_so, reads_so, put_stands}
use Rattle.dag_json.proofs.tree.TreeBuilder.put.Goals as goal

pub returns : goal.returns
returns c =
    let b = c.args.self.now in
    let t = tree_of c.args.value in
    reads_so (PutsValue (levels_of b)) (reading.completed t (levels_of b)) (building.state_of c.put.new.self) b.depth b.values (completed t b.depth b.values (levels_of b)) c.put.result c.read_error_of.result
    (completed_so t b.depth b.values (levels_of b)) (put_stands b.depth b.values c.put.new.self t (levels_of b)) c.put.ensures c.read_error_of.ensures
