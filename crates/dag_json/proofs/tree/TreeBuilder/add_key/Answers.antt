use Rattle.std.proofs.Common.{sym, ◌∙◌, inr, ap, string_bytes}
use Rattle.ipld_tokens.specs.OpenTree as building
use Rattle.dag_json.specs.Building.{state_of, counted, key_at}
use Rattle.dag_json.proofs.Building.{no_key, key_there, key_new, reads_so, key_stands}
use Rattle.dag_json.proofs.tree.TreeBuilder.add_key.Goals as goal

pub returns-then-not-is_at_key : goal.returns-then-not-is_at_key
returns-then-not-is_at_key c = let none = c.if-not-is_at_key.true in inr (no_key c.args.self.now c.args.key.now (sym c.is_at_key.ensures ∙ cc))

pub returns-then-has_key : goal.returns-then-has_key
returns-then-has_key c =
    let at = c.if-not-is_at_key.false in
    inr (key_there c.args.self.now c.args.key.now (sym c.is_at_key.ensures ∙ cc) (sym c.has_key.ensures ∙ c.if-has_key.true))

pub returns-in-Ok : goal.returns-in-Ok
returns-in-Ok c =
    let b = c.args.self.now in
    let at = c.if-not-is_at_key.false in
    reads_so ⊥ (building.key_at (string_bytes c.in-Ok.key) (building.state_of b.tree)) (building.state_of c.put_key.new.self) b.depth b.values (key_at (state_of b) c.args.key.now) c.put_key.result c.read_error_of.result
    (key_new b c.args.key.now (sym c.is_at_key.ensures ∙ cc) (sym c.has_key.ensures ∙ c.if-has_key.false)
    ∙ ap (λ k. counted b.depth b.values (building.key_at k (building.state_of b.tree))) (sym c.in-Ok.ensures.ok))
    (key_stands b.depth b.values c.put_key.new.self (string_bytes c.in-Ok.key) (building.state_of b.tree)) c.put_key.ensures c.read_error_of.ensures
