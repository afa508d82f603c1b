use Rattle.std.proofs.Common.{ap}
use Rattle.ipld_tree.specs.TreeOf.{items_of}
use Rattle.ipld_tree.specs.Walk.{items_preorder}
use Rattle.json.specs.Tree.{items_tokens}
use Rattle.dag_json.specs.Form.{items_json}
use Rattle.dag_json.specs.declared.encode.JsonCursor.TheVariants.{Items}
use Rattle.dag_json.proofs.Joining.{list_opens}
use Rattle.dag_json.proofs.encode.enter_list.Goals as goal

pub returns : goal.returns
returns c =
    list_opens c.args.items.now (Items c.iter.result) c.enter.new.innermost c.args.innermost.now c.args.outer.now.items c.enter.new.outer.items c.args.writer.now c.begin_array.new.self
    (ap (λ xs. items_tokens (items_json (items_of xs))) c.iter.ensures.rest) (ap (λ xs. items_preorder (items_of xs)) c.iter.ensures.rest)
    (record { before = c.begin_array.ensures.room.0; tokens = c.in_ok-begin_array.ensures.ok })
    c.in_ok-enter.ensures.0 c.in_ok-enter.ensures.1
