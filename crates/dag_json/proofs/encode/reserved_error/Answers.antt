use Rattle.std.proofs.Common.{sym, ◌∙◌}
use Rattle.std.proofs.lemmas.Bool.{true≢false}
use Rattle.ipld_tree.specs.TreeOf.{tree_of}
use Rattle.ipld_tree.specs.Walk.{preorder}
use Rattle.dag_json.proofs.ReservedMaps.{uncounted}
use Rattle.dag_json.proofs.encode.reserved_error.Goals as goal

pub unreachable-requires : goal.unreachable-requires
unreachable-requires c =
    absurd (true≢false (sym c.requires ∙ uncounted (preorder (tree_of c.args.value.now)) c.in-Ok-None.field-0 c.in-Ok-None.ensures c.in-Ok-None.field-0-is))
