use Rattle.std.proofs.Common.{Some, ap, ◌∙◌, arith}
use Rattle.ipld_tree.specs.TreeOf.{tree_of}
use Rattle.ipld_tree.proofs.Looking.{item_within, item_past}
use Rattle.ipld_tree.proofs.index.take_item_at_position.Goals as goal

pub returns-then-number-len : goal.returns-then-number-len
returns-then-number-len c = item_past c.args.items.items c.args.number (omega arith)

pub returns : goal.returns
returns c =
    ap (λ v. Some (tree_of v)) c.swap_remove-item.ensures.value ∙ item_within c.args.items.items c.args.number c.swap_remove-item.result (omega arith)
