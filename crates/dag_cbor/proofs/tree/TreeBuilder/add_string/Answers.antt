use Rattle.std.proofs.Common.{[], sym, ◌∙◌}
use Rattle.ipld_tree.specs.Tree.{text as text_tree}
use Rattle.ipld_tokens.specs.ReadMachine.{completed, step}
use Rattle.ipld_tokens.specs.Token.{atom, text}
use Rattle.ipld_tokens.specs.OpenTree.{inside}
use Rattle.dag_cbor.specs.Building.{levels_of, state_of}
use Rattle.dag_cbor.proofs.Building.{reaches, no_key, text_there}
use Rattle.dag_cbor.proofs.tree.TreeBuilder.add_string.Goals as goal

pub returns-then-takes_value : goal.returns-then-takes_value
returns-then-takes_value c =
    let b = c.args.self.now.tree in
    let k = c.args.string.now in
    let ls = inside b.outer.items [] in
    reaches (step (state_of c.args.self.now) (atom (text k))) (completed (text_tree k) (levels_of c.args.self.now)) (state_of c.add_text.new.self) c.add_text.result
    (text_there k b.innermost b.tree ls (no_key b.innermost b.tree ls (sym c.takes_value.ensures ∙ c.if-takes_value.true))) c.add_text.ensures
