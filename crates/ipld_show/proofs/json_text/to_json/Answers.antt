use Rattle.std.proofs.Common.{◌≡◌, [], sym, ap, subst, ◌∙◌}
use Rattle.std.specs.Str.{IsUtf8}
use Rattle.json.specs.Lex.{tokens}
use Rattle.json.specs.Print.{print}
use Rattle.json.specs.Tree.{json_tokens}
use Rattle.dag_json.proofs.Writing.{all_written, all_printed}
use Rattle.ipld_show.proofs.json_text.to_json.Goals as goal

pub returns-in-Ok : goal.returns-in-Ok
returns-in-Ok c = λ d behind b.
    let written = c.in-Ok.ensures d behind b in
    let ts = json_tokens written.0 in
    let all = all_written ts c.new-writer.result c.write_json.new.writer written.2 c.new-writer.ensures.tokens in
    let printed = all_printed [] c.into_inner.result.items ts c.new-writer.result c.write_json.new.writer written.2 (c.new-writer.ensures.before ∙ c.new.ensures.items) c.new-writer.ensures.tokens c.into_inner.ensures.items in
    record {
      json = written.0;
      is_json = written.1;
      printed = printed;
      read = ap tokens printed ∙ subst (λ us. tokens (print us) ≡ us) all c.into_inner.ensures.reads_back;
      utf8 = subst IsUtf8 (ap print all ∙ sym printed) c.into_inner.ensures.utf8;
    }
