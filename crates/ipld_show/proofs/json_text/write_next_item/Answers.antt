use Rattle.std.proofs.Common.{◌-◌, [], ◌∷◌, ◌++◌, reverse, sym, subst, append-nil, arith}
use Rattle.json.specs.Token.{end_array}
use Rattle.ipld_show.specs.JsonFrames.{Coming}
use Rattle.ipld_show.specs.declared.json_text.Frame.TheVariants as frame
use Rattle.dag_json.proofs.Writing.{Wrote-nil}
use Rattle.ipld_show.proofs.Jsons.{next_item_comes, list_ends}
use Rattle.ipld_show.proofs.Trees.{reverse_pop}
use Rattle.ipld_show.proofs.json_text.write_next_item.Goals as goal

pub returns-then-items-gt0-clause-goes_on : goal.returns-then-items-gt0-clause-goes_on
returns-then-items-gt0-clause-goes_on c = λ whole total w n b.
    record {
      tokens = [];
      wrote = Wrote-nil c.args.writer.now;
      to = subst (λ fs. Coming whole total fs c.args.place (w ++ []) n)
          (sym (reverse_pop c.push.new.self.items c.args.frames.now.items (frame.List (c.args.items - 1)) c.in_ok-push.ensures.items))
          (subst (λ ts. Coming whole total (frame.List (c.args.items - 1) ∷ reverse c.args.frames.now.items) c.args.place ts n) (sym (append-nil w))
          (next_item_comes whole total (reverse c.args.frames.now.items) c.args.items (c.args.items - 1) c.args.place w n b (omega arith)));
    }

pub returns-clause-goes_on : goal.returns-clause-goes_on
returns-clause-goes_on c = λ whole total w n b.
    record {
      tokens = end_array ∷ [];
      wrote = record { before = c.end_array.ensures.room.0; tokens = c.in_ok-end_array.ensures.ok };
      to = list_ends whole total (reverse c.args.frames.now.items) c.args.items c.args.place.rest.now c.args.place.containers.now w n b (omega arith);
    }
