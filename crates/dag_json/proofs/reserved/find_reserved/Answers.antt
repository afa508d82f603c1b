use Rattle.std.proofs.Common.{sym, ◌∙◌}
use Rattle.ipld_tree.specs.TreeOf.{tree_of}
use Rattle.ipld_tree.specs.Walk.{preorder}
use Rattle.ipld_tree.specs.Levels.{rest}
use Rattle.dag_json.proofs.ReservedMaps.{passed_one}
use Rattle.dag_json.proofs.reserved.find_reserved.Goals as goal

pub loop-value-preserved : goal.loop-value-preserved
loop-value-preserved c =
    passed_one (preorder (tree_of c.args.tree.now)) (rest c.loop-value.walk) (rest c.next_value.new.walk) (tree_of c.in-Some.value.now) c.loop-value.place c.saturating_add-place.result
    c.loop-value.invariant c.in-Some.ensures (sym c.is_reserved_map.ensures ∙ c.if-is_reserved_map.false) c.saturating_add-place.ensures
