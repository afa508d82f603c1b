use Rattle.std.proofs.Common.{reverse}
use Rattle.ipld_show.specs.declared.json_text.Frame.TheVariants as frame
use Rattle.ipld_show.proofs.Jsons.{list_begins}
use Rattle.ipld_show.proofs.Trees.{reverse_pop}
use Rattle.ipld_show.proofs.json_text.enter_list.Goals as goal

pub returns : goal.returns
returns c = λ whole total w n k i.
    list_begins whole total (reverse c.args.frames.now.items) c.args.items c.args.place c.first_place.result c.args.rest.now w n c.args.writer.now c.begin_array.new.self
    (reverse c.push.new.self.items) k i c.first_place.ensures.rest c.first_place.ensures.containers
    (record { before = c.begin_array.ensures.room.0; tokens = c.in_ok-begin_array.ensures.ok })
    (reverse_pop c.push.new.self.items c.args.frames.now.items (frame.List c.args.items) c.in_ok-push.ensures.items)
