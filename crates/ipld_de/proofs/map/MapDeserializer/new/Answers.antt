use Rattle.ipld_de.proofs.Entering.{ascends}
use Rattle.ipld_de.proofs.map.MapDeserializer.new.Goals as goal

pub returns-clause-ascends : goal.returns-clause-ascends
returns-clause-ascends c =
    let given = c.into_iter.ensures.into_iter_gives in
    rw given.0 (ascends c.args.entries.entries given.5)
