use Rattle.std.proofs.Common.{rules, refl}
use Rattle.dag_cbor_blocks.proofs.Levels.{opened, grown, on_ok, not_longer, put_back}
use Rattle.dag_cbor_blocks.proofs.position.Position.open.Goals as goal

pub returns-then-len-capacity : goal.returns-then-len-capacity
returns-then-len-capacity c = record {
  frames = opened c.replace.new.dest c.args.level c.replace.result c.args.self.now.innermost c.push_reserved.new.self.items c.args.self.now.outer.items
      c.replace.ensures.after c.replace.ensures.value c.push_reserved.ensures.items;
  rest = refl;
  outer = search rules;
  begun = refl;
  uncounted = refl;
  unchanged = tt;
}

pub returns-else-len-capacity : goal.returns-else-len-capacity
returns-else-len-capacity c =
    let old = c.args.self.now in
    let new = c.grow.new.self in
    let g = c.grow.ensures in
    record {
      frames = grown c.grow.result new.innermost c.replace.new.dest c.args.level c.replace.result old.innermost new.outer.items old.outer.items g.outer g.innermost c.replace.ensures.after c.replace.ensures.value;
      rest = on_ok c.grow.result g.rest;
      outer = not_longer c.grow.result new.innermost c.replace.new.dest c.args.level c.replace.result old.innermost new.outer.items old.outer.items g.outer;
      begun = on_ok c.grow.result g.begun;
      uncounted = on_ok c.grow.result g.uncounted;
      unchanged = put_back c.grow.result new.innermost c.replace.new.dest c.args.level c.replace.result old.innermost new.outer.items old.outer.items new.rest.now old.rest.now g.restored c.replace.ensures.value g.rest;
    }
