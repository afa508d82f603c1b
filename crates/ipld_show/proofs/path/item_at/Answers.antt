use Rattle.std.proofs.Common.{◌++◌, Some, ap, sym, ◌∙◌, arith}
use Rattle.ipld_tree.specs.Index.{number_of}
use Rattle.ipld_show.specs.AfterPath.{after_item, after_numbered}
use Rattle.ipld_show.specs.AtPath.{item_at, item_numbered}
use Rattle.ipld_show.specs.DataItem.{items_encoding}
use Rattle.ipld_show.proofs.Skips.{item_to_come, item_passed, item_here, past_items, skipped, finds_value, finds_none}
use Rattle.ipld_show.proofs.path.item_at.Goals as goal

pub returns-then-index-items : goal.returns-then-index-items
returns-then-index-items c = λ ds behind g count e.
    finds_none (item_numbered (number_of c.args.segment.now) ds) (after_numbered (number_of c.args.segment.now) ds ++ behind) (past_items (number_of c.args.segment.now) c.in-Some.index ds (sym c.parse_index.ensures ∙ c.in-Some.is) (omega arith))

pub loop-left-init : goal.loop-left-init
loop-left-init c = λ ds behind g count e.
    record { items = ds; are_items = g; enough = omega arith; encoded = e; same = Rattle.std.proofs.Common.refl; follows = Rattle.std.proofs.Common.refl }

pub returns-in_err-size : goal.returns-in_err-size
returns-in_err-size c = λ ds behind g count e.
    let t = item_to_come c.loop-left.rest.now behind c.loop-left.left (item_at c.in-Some.index ds) (after_item c.in-Some.index ds ++ behind) (c.loop-left.invariant ds behind g count e) in
    absurd (c.in_err-size.ensures.exact t.next (items_encoding t.others ++ behind) t.begins)

pub loop-left-preserved : goal.loop-left-preserved
loop-left-preserved c = λ ds behind g count e.
    let rest = c.loop-left.rest.now in
    let left = c.loop-left.left in
    let sought = item_at c.in-Some.index ds in
    let after = after_item c.in-Some.index ds ++ behind in
    let t = item_to_come rest behind left sought after (c.loop-left.invariant ds behind g count e) in
    item_passed rest behind _ left sought after t (omega arith)
    (skipped t.next rest (items_encoding t.others ++ behind) c.in_ok-size.size t.begins (c.in_ok-size.ensures.exact t.next (items_encoding t.others ++ behind) t.begins))

pub returns : goal.returns
returns c = λ ds behind g count e.
    let sought = item_at c.in-Some.index ds in
    let after = after_item c.in-Some.index ds ++ behind in
    let h = item_here c.loop-left.rest.now behind c.loop-left.left sought after (c.loop-left.invariant ds behind g count e) (omega arith) in
    let index = sym c.parse_index.ensures ∙ c.in-Some.is in
    finds_value (item_numbered (number_of c.args.segment.now) ds) h.0 c.loop-left.rest (after_numbered (number_of c.args.segment.now) ds ++ behind) after
    (ap (λ o. item_numbered o ds) index ∙ h.1) (ap (λ o. after_numbered o ds ++ behind) index) h.2
