use Rattle.std.proofs.Common.{subst, ◌∙◌}
use Rattle.kombilad_c.specs.Fill.{Fills}
use Rattle.kombilad_c.proofs.tape.kombilad_tape.Goals as goal

pub returns-in-Ok-clause-once : goal.returns-in-Ok-clause-once
returns-in-Ok-clause-once c = λ es is listed.
    subst (λ xs. Fills xs c.fill_entries.result c.args.entries.now c.fill_entries.new.buffer c.fill_entries.new.needed) (c.deref.ensures.value ∙ c.in-Ok.ensures.once es is) c.fill_entries.ensures
