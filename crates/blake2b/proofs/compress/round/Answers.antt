use Rattle.blake2b.specs.Blake2b.{round}
use Rattle.blake2b.proofs.compress.round.Goals as goal

pub returns : goal.returns
unfolding round
returns c = cc
