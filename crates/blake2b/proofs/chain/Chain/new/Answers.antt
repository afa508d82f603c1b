use Rattle.std.proofs.Common.{refl}
use Rattle.blake2b.specs.Blake2b.{state_after}
use Rattle.blake2b.proofs.chain.Chain.new.Goals as goal

pub returns : goal.returns
unfolding state_after
returns c = record { whole = refl; state = refl; counted = refl }
