use Rattle.std.proofs.Common.{[], string_bytes, sym, ap, ◌∙◌}
use Rattle.ipld_tree.specs.Tree.{text as text_tree}
use Rattle.ipld_tokens.specs.ReadMachine.{completed, step}
use Rattle.ipld_tokens.specs.Token.{atom, text}
use Rattle.ipld_tokens.specs.OpenTree.{inside, key_at}
use Rattle.ipld_tokens.specs.OpenTree as building
use Rattle.dag_cbor.specs.Building.{levels_of, state_of, settled}
use Rattle.dag_cbor.proofs.Building.{reaches, settles, key_there, text_there}
use Rattle.dag_cbor.proofs.tree.TreeBuilder.add_key.Goals as goal

pub returns-then-is_at_key : goal.returns-then-is_at_key
returns-then-is_at_key c =
    let b = c.args.self.now.tree in
    let k = c.args.string.now in
    reaches (step (state_of c.args.self.now) (atom (text k))) (key_at (string_bytes c.in_ok-key.key) (building.state_of b)) (state_of c.settle.new.self) c.settle.result
    (ap settled (key_there k b.innermost b.tree (inside b.outer.items []) (sym c.is_at_key.ensures ∙ c.if-is_at_key.true) ∙ ap (λ q. key_at q (building.state_of b)) (sym c.in_ok-key.ensures.ok)))
    (settles ⊥ (key_at (string_bytes c.in_ok-key.key) (building.state_of b)) (building.state_of c.put_key-built.new.self) (state_of c.settle.new.self) c.put_key-built.result c.settle.result c.put_key-built.ensures
    c.settle.ensures)

pub returns : goal.returns
returns c =
    let b = c.args.self.now.tree in
    let k = c.args.string.now in
    reaches (step (state_of c.args.self.now) (atom (text k))) (completed (text_tree k) (levels_of c.args.self.now)) (state_of c.add_text.new.self) c.add_text.result
    (text_there k b.innermost b.tree (inside b.outer.items []) (sym c.is_at_key.ensures ∙ c.if-is_at_key.false)) c.add_text.ensures
