use Rattle.blake2b.specs.Blake2b.{initial_state}
use Rattle.blake2b.proofs.hasher.Blake2b.update.Goals as goal

pub returns : goal.returns
returns g c = λ message held. c.update.ensures (initial_state g.row.N) message held
