use Rattle.blake2b.proofs.hasher.Blake2b.new.Goals as goal

pub returns : goal.returns
returns g c = c.new.ensures
