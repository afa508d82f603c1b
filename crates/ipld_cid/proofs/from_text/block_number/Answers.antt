use Rattle.std.proofs.Common.{◌≡◌, get_or, arith}
use Rattle.ipld_cid.specs.declared.base32.TheConstants.{BASE32_VALUES}
use Rattle.ipld_cid.proofs.Letters.{gathers_more, gathers_fits, gathers_all, no_number}
use Rattle.ipld_cid.proofs.from_text.block_number.Goals as goal

pub overflow_mul-bits : goal.overflow_mul-bits
overflow_mul-bits c =
    let i = c.loop-letter.letter-index in
    omega (arith, gathers_fits c.args.letters.now i c.loop-letter.bits c.loop-letter.seen c.loop-letter.invariant (omega arith) c.told-letters (omega (arith, c.fits-letters i)))

pub overflow_add-bits : goal.overflow_add-bits
overflow_add-bits c =
    let i = c.loop-letter.letter-index in
    let value : c.from.result ≡ get_or BASE32_VALUES (get_or c.args.letters.now i 0) 0 = c.from.ensures in
    omega (arith, value, gathers_fits c.args.letters.now i c.loop-letter.bits c.loop-letter.seen c.loop-letter.invariant (omega arith) c.told-letters (omega (arith, c.fits-letters i)))

pub loop-letter-preserved : goal.loop-letter-preserved
loop-letter-preserved c =
    let i = c.loop-letter.letter-index in
    rw c.from.ensures (gathers_more c.args.letters.now i c.loop-letter.bits c.loop-letter.seen c.loop-letter.invariant (omega arith) (omega (arith, c.fits-letters i)))

pub returns-then-seen-lt32 : goal.returns-then-seen-lt32
returns-then-seen-lt32 c = gathers_all c.args.letters.now c.loop-letter.letter-index c.loop-letter.bits c.loop-letter.seen c.loop-letter.invariant (omega arith) (omega arith) c.if-seen-lt32.true

pub returns-else-seen-lt32 : goal.returns-else-seen-lt32
returns-else-seen-lt32 c = no_number c.args.letters.now (c.loop-letter.invariant.other c.if-seen-lt32.false)
