use Rattle.std.proofs.Common.{[], sym, ◌∙◌}
use Rattle.std.proofs.lemmas.Bool.{true≢false}
use Rattle.ipld_show.proofs.BlockItems.{stops_at, stops_json_at, rejected_unwritten, tree_at, tree_unwritten, json_at}
use Rattle.ipld_show.proofs.blocks.show_at.Goals as goal

pub returns-in-Err : goal.returns-in-Err
returns-in-Err g c = record {
  shown = λ d b plain. stops_at d c.args.path.now (g.W.Write.contents c.args.writer.now) (g.W.Write.contents c.args.writer.now) c.in-Err.error (c.in-Err.ensures d [] b);
  shown_as_json = λ d b plain. stops_json_at d c.args.path.now (g.W.Write.contents c.args.writer.now) (g.W.Write.contents c.args.writer.now) c.in-Err.error (c.in-Err.ensures d [] b);
  unwritten = λ d b. rejected_unwritten c.in-Err.error (g.W.Write.contents c.args.writer.now);
}

pub returns-then-json : goal.returns-then-json
returns-then-json g c = record {
  shown = λ d b plain. absurd (true≢false (sym c.if-json.true ∙ plain));
  shown_as_json = λ d b json. (json_at d c.args.path.now (g.W.Write.contents c.args.writer.now) (g.W.Write.contents c.write_json_line.new.writer) c.in-Ok.value (c.in-Ok.ensures d [] b) c.write_json_line.result c.write_json_line.ensures).0;
  unwritten = λ d b. (json_at d c.args.path.now (g.W.Write.contents c.args.writer.now) (g.W.Write.contents c.write_json_line.new.writer) c.in-Ok.value (c.in-Ok.ensures d [] b) c.write_json_line.result c.write_json_line.ensures).1;
}

pub returns : goal.returns
returns g c = record {
  shown = λ d b plain.
      tree_at d c.args.path.now (g.W.Write.contents c.args.writer.now) (g.W.Write.contents c.write_tree.new.writer) c.in-Ok.value (c.in-Ok.ensures d [] b) c.write_tree.result c.write_tree.ensures;
  shown_as_json = λ d b json. absurd (true≢false (sym json ∙ c.if-json.false));
  unwritten = λ d b.
      tree_unwritten d c.args.path.now (g.W.Write.contents c.args.writer.now) (g.W.Write.contents c.write_tree.new.writer) c.in-Ok.value (c.in-Ok.ensures d [] b) c.write_tree.result c.write_tree.ensures;
}
