use Rattle.std.proofs.Common.{sym, ◌∙◌}
use Rattle.ipld_tree.specs.Tree.{no_members}
use Rattle.ipld_tokens.specs.ReadMachine.{in_key}
use Rattle.ipld_tokens.specs.Token.{map}
use Rattle.ipld_tokens.specs.OpenTree as building
use Rattle.dag_cbor.proofs.Building.{map_begins, begin_taken, begin_missing}
use Rattle.dag_cbor.proofs.tree.TreeBuilder.begin_map.Goals as goal

pub returns-then-not-takes_value : goal.returns-then-not-takes_value
returns-then-not-takes_value c = begin_missing (in_key no_members) map map_begins c.args.self.now (record c.args.self.now { tree = c.reject.new.self }) (sym c.takes_value.ensures ∙ c.if-not-takes_value.true) c.reject.ensures

pub returns : goal.returns
returns c =
    begin_taken (in_key no_members) map map_begins c.args.self.now c.settle.new.self (Unit {0}) (building.state_of c.begin_map-built.new.self) c.begin_map-built.result c.settle.result
    (sym c.takes_value.ensures ∙ c.if-not-takes_value.false) c.begin_map-built.ensures c.settle.ensures
