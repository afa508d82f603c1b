use Rattle.std.proofs.Common.{◌∷◌}
use Rattle.ipld_tree.specs.Tree.{no_items}
use Rattle.ipld_tokens.specs.ReadMachine.{open_at}
use Rattle.ipld_tokens.specs.OpenTree as building
use Rattle.dag_json.specs.Building.{levels_of, state_of, begun}
use Rattle.dag_json.specs.ReadMachine.{in_list}
use Rattle.dag_json.proofs.Building.{entered, reads_so, open_stands}
use Rattle.dag_json.proofs.tree.TreeBuilder.begin_list.Goals as goal

pub returns : goal.returns
returns c =
    let old = c.args.self.now in
    let mid = c.begin.new.self in
    reads_so (Unit {0}) (open_at (in_list no_items ∷ levels_of mid)) (building.state_of c.begin_list.new.self) mid.depth mid.values (begun c.args.limits.now (state_of old) (in_list no_items)) c.begin_list.result c.read_error_of.result
    (entered c.args.limits.now old mid (in_list no_items) c.in_ok-begin.ensures)
    (open_stands mid.depth mid.values (building.state_of c.begin_list.new.self) (in_list no_items ∷ levels_of mid)) c.begin_list.ensures c.read_error_of.ensures
