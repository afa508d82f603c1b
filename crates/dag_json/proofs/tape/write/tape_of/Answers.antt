use Rattle.std.proofs.Common.{Err, ap, subst, ◌∙◌}
use Rattle.ipld_tree.specs.TreeOf.{tree_of}
use Rattle.dag_json.specs.TapeOpen.{view}
use Rattle.dag_json.specs.TapeWriting.{written, Writes}
use Rattle.dag_json.proofs.tape.Describing.{described, failed}
use Rattle.dag_json.proofs.tape.write.tape_of.Goals as goal

pub returns-in-Ok : goal.returns-in-Ok
returns-in-Ok c = described (tree_of c.args.tree) c.finish.result (c.finish.ensures ∙ c.in-Ok.ensures ∙ ap (written (tree_of c.args.tree)) c.new-writer.ensures)

pub returns-in_default : goal.returns-in_default
returns-in_default c =
    let t = tree_of c.args.tree in
    let after = view c.write_tree.new.self in
    failed t c.in-Err.error after (subst (λ w. Writes (written t w) (Err c.in-Err.error) after) c.new-writer.ensures c.in-Err.ensures)
