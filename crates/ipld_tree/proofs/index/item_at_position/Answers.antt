use Rattle.std.proofs.Common.{Some, ap, ◌∙◌, arith}
use Rattle.ipld_tree.specs.TreeOf.{tree_of}
use Rattle.ipld_tree.proofs.Looking.{item_within, item_past}
use Rattle.ipld_tree.proofs.index.item_at_position.Goals as goal

pub returns-then-number-len : goal.returns-then-number-len
returns-then-number-len c =
    ap (λ v. Some (tree_of v)) c.index.ensures ∙ item_within c.args.items.now.items c.args.number c.index.result.now (omega arith)

pub returns-else-number-len : goal.returns-else-number-len
returns-else-number-len c = item_past c.args.items.now.items c.args.number (omega arith)
