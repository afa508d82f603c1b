use Rattle.std.proofs.Common.{sym, ◌∙◌, inr, Ok}
use Rattle.ipld_tree.specs.TreeOf.{tree_of}
use Rattle.dag_json.specs.Building.{state_of}
use Rattle.dag_json.proofs.Building.{adds, adds_not}
use Rattle.dag_json.proofs.tree.TreeBuilder.add.Goals as goal

pub returns-then-not-takes_value : goal.returns-then-not-takes_value
returns-then-not-takes_value c = inr (adds_not c.args.limits.now (Ok (tree_of c.args.value)) c.args.self.now (sym c.takes_value.ensures ∙ c.if-not-takes_value.true))

pub returns : goal.returns
returns c =
    adds c.args.limits.now c.args.self.now (sym c.takes_value.ensures ∙ c.if-not-takes_value.false) c.count.new.self (tree_of c.args.value) (state_of c.put.new.self) c.put.result c.in_ok-count.ensures.ok
    c.put.ensures
