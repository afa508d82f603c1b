use Rattle.dag_cbor.proofs.Building.{map_taken, map_missing}
use Rattle.dag_cbor.proofs.tree.TreeBuilder.end_map.Goals as goal

pub returns-in-Ok : goal.returns-in-Ok
returns-in-Ok c = map_taken c.args.self.now (record c.args.self.now { tree = c.end_map.new.self }) c.add.new.self c.in-Ok.members c.add.result c.in-Ok.ensures c.add.ensures

pub returns-in-Err : goal.returns-in-Err
returns-in-Err c = map_missing c.args.self.now (record c.args.self.now { tree = c.reject.new.self }) c.reject.ensures c.in-Err.ensures.1
