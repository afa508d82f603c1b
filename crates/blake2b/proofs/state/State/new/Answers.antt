use Rattle.std.proofs.Common.{[], refl, sym}
use Rattle.blake2b.proofs.state.State.new.Goals as goal

pub returns : goal.returns
returns c = record { before = []; compressed = c.new.ensures; parts = sym c.new-2.ensures; some = λ _. refl }
