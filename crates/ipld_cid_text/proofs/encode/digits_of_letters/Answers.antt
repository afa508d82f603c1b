use Rattle.std.proofs.Common.{get_or, arith}
use Rattle.ipld_cid_text.proofs.Lettering.{stands_none, stands_more, stands_stops, stands_all}
use Rattle.ipld_cid_text.proofs.encode.digits_of_letters.Goals as goal

pub loop-place-init : goal.loop-place-init
loop-place-init c = rw c.new-digits.ensures (stands_none c.args.base c.args.letters.now)

pub returns-then-digit : goal.returns-then-digit
returns-then-digit c =
    let at = c.loop-place.place in
    stands_stops c.args.base c.args.letters.now at c.loop-place.digits (get_or c.values-values.result.now (get_or c.args.letters.now at 0) 0) c.loop-place.invariant c.loop-place-test.true
    (c.values-values.ensures (get_or c.args.letters.now at 0) (omega (arith, c.type_inv.letters at))) c.if-digit.true

pub loop-place-preserved : goal.loop-place-preserved
loop-place-preserved c =
    let at = c.loop-place.place in
    rw c.push.ensures (stands_more c.args.base c.args.letters.now at c.loop-place.digits (get_or c.values-values.result.now (get_or c.args.letters.now at 0) 0) c.loop-place.invariant c.loop-place-test.true
    (c.values-values.ensures (get_or c.args.letters.now at 0) (omega (arith, c.type_inv.letters at))) c.if-digit.false)

pub returns : goal.returns
returns c = stands_all c.args.base c.args.letters.now c.loop-place.place c.loop-place.digits c.loop-place.invariant (omega arith)
