use Rattle.std.proofs.Common.{◌∷◌}
use Rattle.ipld_tree.specs.Tree.{no_members}
use Rattle.ipld_tokens.specs.ReadMachine.{open_at}
use Rattle.ipld_tokens.specs.OpenTree as building
use Rattle.dag_json.specs.Building.{levels_of, state_of, begun}
use Rattle.dag_json.specs.ReadMachine.{in_key}
use Rattle.dag_json.proofs.Building.{entered, reads_so, open_stands}
use Rattle.dag_json.proofs.tree.TreeBuilder.begin_map.Goals as goal

pub returns : goal.returns
returns c =
    let old = c.args.self.now in
    let mid = c.begin.new.self in
    reads_so (Unit {0}) (open_at (in_key no_members ∷ levels_of mid)) (building.state_of c.begin_map.new.self) mid.depth mid.values (begun c.args.limits.now (state_of old) (in_key no_members)) c.begin_map.result c.read_error_of.result
    (entered c.args.limits.now old mid (in_key no_members) c.in_ok-begin.ensures)
    (open_stands mid.depth mid.values (building.state_of c.begin_map.new.self) (in_key no_members ∷ levels_of mid)) c.begin_map.ensures c.read_error_of.ensures
