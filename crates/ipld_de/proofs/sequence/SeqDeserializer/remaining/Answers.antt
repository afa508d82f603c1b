use Rattle.std.proofs.Common.{sym, ◌∙◌}
use Rattle.std.specs.Vec.Iter.{into_iter_items}
use Rattle.ipld_de.proofs.Sequences.{count_items-items_of}
use Rattle.ipld_de.proofs.sequence.SeqDeserializer.remaining.Goals as goal

pub returns : goal.returns
returns c =
    let items = c.args.self.now.items in
    c.len.ensures ∙ items.rest.ok.0 ∙ sym (count_items-items_of (into_iter_items items))
