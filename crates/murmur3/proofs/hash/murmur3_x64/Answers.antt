use Rattle.std.proofs.Common.{◌≡◌, ◌/◌, ◌%◌, ◌^◌, length, refl, add-one, arith}
use Rattle.murmur3.specs.Murmur3.{body, murmur3_x64}
use Rattle.murmur3.proofs.hash.murmur3_x64.Goals as goal

pub each-init : goal.each-init
unfolding body
each-init c = rw (c.from.ensures, c.from-2.ensures) refl

pub each-preserved : goal.each-preserved
unfolding body
each-preserved c =
    rw (add-one c.each.i, c.mix_block-h.ensures, c.each.invariant, c.load_le-in-each.ensures, c.load_le.ensures) refl

pub returns : goal.returns
unfolding murmur3_x64
returns c =
    let all : c.each.i ≡ length c.args.bytes.now / 16 = omega arith in
    let short : length c.args.bytes.now % 2 ^ 64 ≡ length c.args.bytes.now = omega arith in
    rw (short, c.finalize.ensures, c.with_tail.ensures, c.tail.ensures, c.each.invariant, all) refl
