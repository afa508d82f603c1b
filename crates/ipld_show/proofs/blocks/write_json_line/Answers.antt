use Rattle.std.proofs.Common.{◌≡◌, ◌++◌, codes, subst, ◌∙◌}
use Rattle.std.specs.Io.KnownBytes.{Appends}
use Rattle.ipld_show.proofs.BlockItems.{json_stops}
use Rattle.ipld_show.proofs.blocks.write_json_line.Goals as goal

pub returns-in-Err : goal.returns-in-Err
returns-in-Err g c = λ d behind b. json_stops d c.in-Err.error (g.W.Write.contents c.args.writer.now) (c.in-Err.ensures d behind b)

pub returns : goal.returns
returns g c = λ d behind b.
    let json = c.in-Ok.ensures d behind b in
    let all : c.deref.result.now ≡ c.in-Ok.text.items ++ codes "\n" = c.deref.ensures.value ∙ c.in_ok-push.ensures.items in
    (c.in-Ok.text.items, json, subst (Appends (g.W.Write.contents c.args.writer.now) (g.W.Write.contents c.write_all.new.self)) all c.in_ok-write_all.ensures.bytes)
