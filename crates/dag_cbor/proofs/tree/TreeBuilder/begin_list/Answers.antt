use Rattle.std.proofs.Common.{sym, ◌∙◌}
use Rattle.ipld_tree.specs.Tree.{no_items}
use Rattle.ipld_tokens.specs.ReadMachine.{in_list}
use Rattle.ipld_tokens.specs.Token.{seq}
use Rattle.ipld_tokens.specs.OpenTree as building
use Rattle.dag_cbor.proofs.Building.{seq_begins, begin_taken, begin_missing}
use Rattle.dag_cbor.proofs.tree.TreeBuilder.begin_list.Goals as goal

pub returns-then-not-takes_value : goal.returns-then-not-takes_value
returns-then-not-takes_value c = begin_missing (in_list no_items) seq seq_begins c.args.self.now (record c.args.self.now { tree = c.reject.new.self }) (sym c.takes_value.ensures ∙ c.if-not-takes_value.true) c.reject.ensures

pub returns : goal.returns
returns c =
    begin_taken (in_list no_items) seq seq_begins c.args.self.now c.settle.new.self (Unit {0}) (building.state_of c.begin_list-built.new.self) c.begin_list-built.result c.settle.result
    (sym c.takes_value.ensures ∙ c.if-not-takes_value.false) c.begin_list-built.ensures c.settle.ensures
