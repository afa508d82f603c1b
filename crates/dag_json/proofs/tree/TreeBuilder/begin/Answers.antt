use Rattle.std.proofs.Common.{sym, ◌∙◌, arith}
use Rattle.std.proofs.lemmas.Bool.{lt-ltb, le-ltb}
use Rattle.dag_json.proofs.Building.{begins, begins_not, begins_deep}
use Rattle.dag_json.proofs.tree.TreeBuilder.begin.Goals as goal

pub returns-then-not-takes_value : goal.returns-then-not-takes_value
returns-then-not-takes_value c = begins_not c.args.limits.now c.args.self.now (sym c.takes_value.ensures ∙ c.if-not-takes_value.true)

pub returns-then-self-limits : goal.returns-then-self-limits
returns-then-self-limits c =
    let deep = c.if-self-limits.true in
    begins_deep c.args.limits.now c.args.self.now (sym c.takes_value.ensures ∙ c.if-not-takes_value.false) (le-ltb c.args.self.now.depth c.args.limits.now.levels (omega arith))

pub returns : goal.returns
returns c =
    let flat = c.if-self-limits.false in
    let counts = c.in_ok-count.ensures.ok in
    (counts.tree, begins c.args.limits.now c.args.self.now (sym c.takes_value.ensures ∙ c.if-not-takes_value.false) c.count.new.self counts (lt-ltb c.args.self.now.depth c.args.limits.now.levels (omega arith)))
