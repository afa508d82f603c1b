use Rattle.std.proofs.Common.{◌≡◌, ◌+◌, ◌-◌, ◌*◌, length, refl, arith}
use Rattle.std.proofs.lemmas.List.{take_all}
use Rattle.blake2b.proofs.Compressing.{IsAfter-next, IsAfter-none}
use Rattle.blake2b.proofs.chain.Chain.compress_blocks.Goals as goal

pub each-init : goal.each-init
each-init c = λ initial bytes after. IsAfter-none initial c.args.self.now bytes c.args.blocks.now after

pub each-preserved : goal.each-preserved
each-preserved c = λ initial bytes after.
    let at = 128 * c.each.i in
    let next : 128 * (c.each.i + 1) ≡ at + 128 = omega arith in
    let width : at + 128 - at ≡ 128 = omega arith in
    rw next (IsAfter-next initial c.each.self _ bytes c.args.blocks.now _ at (c.each.invariant initial bytes after) (omega arith) (rw width refl) refl c.compress.ensures)

pub returns : goal.returns
returns c = λ initial bytes after.
    let done : 128 * c.each.i ≡ length c.args.blocks.now = omega arith in
    rw (done, take_all (length c.args.blocks.now) c.args.blocks.now (omega arith)) at (c.each.invariant initial bytes after)
