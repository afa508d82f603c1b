use Rattle.ipld_tree.specs.TreeOf.{tree_of}
use Rattle.dag_json.proofs.Joining.{text_written, text_utf8}
use Rattle.dag_json.proofs.encode.write_after.Goals as goal

pub returns-clause-ok : goal.returns-clause-ok
returns-clause-ok c =
    text_written c.args.out.items c.into_inner.result.items (tree_of c.args.value.now) c.new-writer.result c.write_tree.new.writer
    c.in_ok-write_tree.ensures.ok c.new-writer.ensures.before c.new-writer.ensures.tokens c.into_inner.ensures.items

pub returns-clause-utf8 : goal.returns-clause-utf8
returns-clause-utf8 c = text_utf8 (tree_of c.args.value.now) c.new-writer.result c.write_tree.new.writer c.in_ok-write_tree.ensures.ok c.new-writer.ensures.tokens c.into_inner.ensures.utf8
