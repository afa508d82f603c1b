use Rattle.std.proofs.Common.{sym, ◌∙◌}
use Rattle.ipld_de.proofs.Entering.{count_members-members_of}
use Rattle.ipld_de.proofs.map.MapDeserializer.remaining.Goals as goal

pub returns : goal.returns
returns c = c.len.ensures.value ∙ sym (count_members-members_of c.args.self.now.entries)
