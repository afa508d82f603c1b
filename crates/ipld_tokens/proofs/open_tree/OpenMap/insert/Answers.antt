use Rattle.std.proofs.Common.{sym, ◌∙◌}
use Rattle.ipld_tokens.proofs.OpenTrees.{put_under, has_already, is_absent}
use Rattle.ipld_tokens.proofs.open_tree.OpenMap.insert.Goals as goal

pub returns-in-Ok-None : goal.returns-in-Ok-None
returns-in-Ok-None c =
    let map = c.args.self.now in
    put_under map.members.entries c.in-Some.key map.key c.args.value (sym c.take.ensures.value ∙ c.in-Some.is) c.insert.new.self.entries c.take.new.self c.take.ensures.after
    (sym c.in-Ok-None.ensures.old ∙ c.in-Ok-None.field-0-is) c.in-Ok-None.ensures.entries

pub returns-in-Ok-Some : goal.returns-in-Ok-Some
returns-in-Ok-Some c =
    let map = c.args.self.now in
    has_already map.members.entries c.in-Some.key map.key c.args.value (sym c.take.ensures.value ∙ c.in-Some.is) c.in-Ok-Some.earlier
    (sym c.in-Ok-Some.ensures.old ∙ c.in-Ok-Some.field-0-is)

pub returns : goal.returns
returns c = λ _.
    let map = c.args.self.now in
    is_absent map.members.entries c.in-Some.key map.key c.args.value (sym c.take.ensures.value ∙ c.in-Some.is) c.in-Err.ensures.absent
