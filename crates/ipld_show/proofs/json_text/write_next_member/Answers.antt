use Rattle.std.proofs.Common.{[], ◌∷◌, ◌++◌, reverse, sym, subst, rules}
use Rattle.json.specs.Token.{end_object, key}
use Rattle.ipld_show.specs.JsonFrames.{Coming}
use Rattle.ipld_show.specs.declared.json_text.Frame.TheVariants as frame
use Rattle.ipld_show.proofs.Jsons.{next_entry_comes, map_ends}
use Rattle.ipld_show.proofs.Trees.{reverse_pop}
use Rattle.ipld_show.proofs.json_text.write_next_member.Goals as goal

pub returns-in-Some-clause-goes_on : goal.returns-in-Some-clause-goes_on
returns-in-Some-clause-goes_on c = λ whole total w n rest listed b.
    let written = key c.in-Some.entry.key.now ∷ [] in
    record {
      tokens = written;
      wrote = record { before = c.key.ensures.room.0; tokens = c.in_ok-key-in-Some.ensures.ok };
      to = subst (λ fs. Coming whole total fs c.in-Some.entry.value (w ++ written) n)
          (sym (reverse_pop c.push.new.self.items c.args.frames.now.items (frame.Map c.pop.new.self c.args.after) c.in_ok-push-in-Some.ensures.items))
          (next_entry_comes whole total (reverse c.args.frames.now.items) c.args.entries c.pop.new.self c.in-Some.entry c.args.after rest listed w n b c.in-Some.ensures.items);
    }

pub returns-clause-goes_on : goal.returns-clause-goes_on
returns-clause-goes_on c = λ whole total w n rest listed b.
    record {
      tokens = end_object ∷ [];
      wrote = record { before = c.end_object.ensures.room.0; tokens = c.in_ok-end_object-in-None.ensures.ok };
      to = map_ends whole total (reverse c.args.frames.now.items) c.args.entries c.args.after rest listed w n b (search rules);
    }
