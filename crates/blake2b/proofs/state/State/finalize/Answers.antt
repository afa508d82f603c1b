use Rattle.std.proofs.Common.{List, ℕ, refl, arith, ap, ◌∙◌}
use Rattle.blake2b.specs.Blake2b.{bytes_of}
use Rattle.blake2b.proofs.Absorbing.{Holds-final}
use Rattle.blake2b.proofs.state.State.finalize.Goals as goal

pub returns : goal.returns
returns c = λ initial message held.
    let compressed = Holds-final initial c.args.self message _ _ held (omega arith) c.into_block.ensures (rw c.len.ensures.value refl) in
    c.to_bytes.ensures ∙ ap (λ (h : List ℕ). bytes_of h 8) (c.compress.ensures ∙ compressed)
