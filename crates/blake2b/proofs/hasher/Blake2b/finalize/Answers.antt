use Rattle.std.proofs.Common.{take, ap, ◌∙◌}
use Rattle.blake2b.specs.Blake2b.{blake2b, initial_state}
use Rattle.blake2b.proofs.hasher.Blake2b.finalize.Goals as goal

pub returns : goal.returns
unfolding blake2b
returns g c = λ message held.
    c.copy_from_slice.ensures.after ∙ ap (take g.row.N) (c.finalize-bytes.ensures (initial_state g.row.N) message held)
