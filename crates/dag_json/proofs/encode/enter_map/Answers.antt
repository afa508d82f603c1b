use Rattle.std.proofs.Common.{◌∷◌, ap, sym, ◌∙◌}
use Rattle.ipld_tree.specs.Tree.{entries}
use Rattle.ipld_tree.specs.TreeOf.{members_of}
use Rattle.ipld_tree.specs.Walk.{members_preorder}
use Rattle.json.specs.Token.{begin_object}
use Rattle.json.specs.Tree.{members_tokens}
use Rattle.dag_json.specs.Form.{members_json}
use Rattle.dag_json.specs.declared.encode.JsonCursor.TheVariants.{Entries}
use Rattle.dag_json.proofs.Joining.{map_opens}
use Rattle.dag_json.proofs.encode.enter_map.Goals as goal

pub returns-clause-ok : goal.returns-clause-ok
returns-clause-ok c =
    let t = entries (members_of c.args.members.now.entries) in
    map_opens t (Entries c.iter.result) c.enter.new.innermost c.args.innermost.now c.args.outer.now.items c.enter.new.outer.items c.args.writer.now c.begin_object.new.self
    (ap (λ es. begin_object ∷ members_tokens (members_json (members_of es))) (sym c.iter.ensures.rest)) (ap (λ es. t ∷ members_preorder (members_of es)) (sym c.iter.ensures.rest))
    (sym c.is_reserved.ensures ∙ c.if-is_reserved.false)
    (record { before = c.begin_object.ensures.room.0; tokens = c.in_ok-begin_object.ensures.ok })
    c.in_ok-enter.ensures.0 c.in_ok-enter.ensures.1
