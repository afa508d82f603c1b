use Rattle.std.proofs.Common.{rules, ◌∙◌}
use Rattle.dag_cbor_blocks.proofs.Levels.{left}
use Rattle.dag_cbor_blocks.proofs.position.Position.leave.Goals as goal

pub returns-in-Some-clause-frames : goal.returns-in-Some-clause-frames
returns-in-Some-clause-frames c = left c.args.self.now.outer.items c.pop.new.self.items c.pop.result c.replace.new.dest c.pop.ensures.items (c.replace.ensures.after ∙ c.unwrap_or-outer.ensures)

pub returns-in_default-into_memory-clause-frames : goal.returns-in_default-into_memory-clause-frames
returns-in_default-into_memory-clause-frames c = left c.args.self.now.outer.items c.pop.new.self.items c.pop.result c.replace.new.dest c.pop.ensures.items (c.replace.ensures.after ∙ c.unwrap_or-outer.ensures)

pub returns-in_default : goal.returns-in_default
returns-in_default c =
    record {
      frames = left c.args.self.now.outer.items c.pop.new.self.items c.pop.result c.replace.new.dest c.pop.ensures.items (c.replace.ensures.after ∙ c.unwrap_or-outer.ensures);
      rest = search rules;
      outer = search rules;
      uncounted = search rules;
    }
