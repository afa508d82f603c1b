use Rattle.std.proofs.Common.{◌*◌, ◌+◌, arith}
use Rattle.ipld_links_run.proofs.DigitLemmas.{gathers_more, all_gathered}
use Rattle.ipld_links_run.proofs.digits.decode_digits.Goals as goal

pub loop-i-preserved : goal.loop-i-preserved
loop-i-preserved c =
    let i = c.loop-i.i in
    gathers_more c.args.digits.now c.loop-i.bytes i c.loop-i.seen c.loop-i.invariant (omega arith) (omega arith)
    (omega (arith, c.type_inv.digits (2 * i))) (omega (arith, c.type_inv.digits (2 * i + 1)))

pub returns : goal.returns
returns c = all_gathered c.args.digits.now c.loop-i.bytes c.loop-i.i _ c.loop-i.seen c.loop-i.invariant (omega arith) (omega arith) (omega arith) (omega arith)
