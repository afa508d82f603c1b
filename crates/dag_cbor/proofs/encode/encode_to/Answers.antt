use Rattle.std.proofs.Common.{map, ap, ◌∙◌}
use Rattle.std.proofs.lemmas.Result.{err_from_is_err_and}
use Rattle.ipld_tree.specs.TreeOf.{tree_of}
use Rattle.dag_cbor.specs.declared.encode.EncodeCursor.TheVariants.{Items}
use Rattle.dag_cbor.specs.Cursors.{of_item, all_left, within}
use Rattle.dag_cbor.proofs.Joining.{alone, came_to_end, tree_written, tree_within, went_on}
use Rattle.dag_cbor.proofs.Ranges.{why_unwritten}
use Rattle.dag_cbor.proofs.encode.encode_to.Goals as goal

pub returns-in_err-write_next-clause-err : goal.returns-in_err-write_next-clause-err
returns-in_err-write_next-clause-err c =
    let p = err_from_is_err_and c.from_residual.result c.from_residual.ensures.1 in
    let x = c.args.value.now in
    let one = alone x (Items c.iter.result) c.new-outer.result.items (ap (map of_item) (c.iter.ensures.rest ∙ c.from_ref.ensures.value)) c.new-outer.ensures.items in
    let left = all_left c.loop-outer.innermost c.loop-outer.outer.items in
    rw (p.1, p.2) (
    why_unwritten c.in_err-write_next.field-0.0 (tree_of x) (within left)
    (tree_within x (all_left (Items c.iter.result) c.new-outer.result.items) left c.args.out.now.items c.loop-outer.out.items one c.loop-outer.invariant) c.in_err-write_next.ensures.err
    )

pub loop-outer-preserved : goal.loop-outer-preserved
loop-outer-preserved c =
    went_on c.in_ok-write_next.field-0 (all_left (Items c.iter.result) c.new-outer.result.items) c.args.out.now.items c.loop-outer.out.items c.write_next.new.out.items
    c.loop-outer.innermost c.write_next.new.innermost c.loop-outer.outer.items c.write_next.new.outer.items c.loop-outer.invariant c.if-branch.true c.in_ok-write_next.ensures.ok

pub returns-clause-ok : goal.returns-clause-ok
returns-clause-ok c =
    let x = c.args.value.now in
    let one = alone x (Items c.iter.result) c.new-outer.result.items (ap (map of_item) (c.iter.ensures.rest ∙ c.from_ref.ensures.value)) c.new-outer.ensures.items in
    let ends = came_to_end c.in_ok-write_next.field-0 c.loop-outer.out.items c.write_next.new.out.items c.loop-outer.innermost c.write_next.new.innermost c.loop-outer.outer.items c.write_next.new.outer.items c.if-branch.false c.in_ok-write_next.ensures.ok in
    tree_written x (all_left (Items c.iter.result) c.new-outer.result.items) (all_left c.loop-outer.innermost c.loop-outer.outer.items) c.args.out.now.items c.loop-outer.out.items c.write_next.new.out.items
    one c.loop-outer.invariant ends.0 ends.1

pub returns-clause-within : goal.returns-clause-within
returns-clause-within c =
    let x = c.args.value.now in
    let one = alone x (Items c.iter.result) c.new-outer.result.items (ap (map of_item) (c.iter.ensures.rest ∙ c.from_ref.ensures.value)) c.new-outer.ensures.items in
    let ends = came_to_end c.in_ok-write_next.field-0 c.loop-outer.out.items c.write_next.new.out.items c.loop-outer.innermost c.write_next.new.innermost c.loop-outer.outer.items c.write_next.new.outer.items c.if-branch.false c.in_ok-write_next.ensures.ok in
    tree_within x (all_left (Items c.iter.result) c.new-outer.result.items) (all_left c.loop-outer.innermost c.loop-outer.outer.items) c.args.out.now.items c.loop-outer.out.items one c.loop-outer.invariant
    ∙ ap within ends.0
