use Rattle.std.proofs.Common.{refl}
use Rattle.murmur3.specs.Murmur3.{mix_block, next_h1}
use Rattle.murmur3.proofs.Mixing.{next_h1-wrapped, next_h2-wrapped}
use Rattle.murmur3.proofs.hash.mix_block.Goals as goal

pub returns : goal.returns
unfolding mix_block
returns c =
    let h1 = c.args.h.0 in
    let h2 = c.args.h.1 in
    let first = next_h1-wrapped h1 h2 _ _ c.rotate_left.ensures in
    rw (first, next_h2-wrapped (next_h1 h1 h2 c.mix_k1.result) h2 _ _ c.rotate_left-2.ensures, c.mix_k1.ensures, c.mix_k2.ensures) refl
