use Rattle.std.proofs.Common.{◌≡◌, true}
use Rattle.ipld_cid.specs.LinkOf.{link_of}
use Rattle.ipld_cid.specs.Order.{link_eq}
use Rattle.ipld_car.specs.SectionOf.{block_of}
use Rattle.car_files.proofs.Looking.{looked_found, looked_until}
use Rattle.car_files.proofs.find.find_block.Goals as goal

pub returns-in-Err : goal.returns-in-Err
returns-in-Err g c =
    looked_until _ (g.R.Read.remaining c.loop.car.reader) _ _ c.loop.car _ (link_of c.args.cid.now) (block_of c.read_next.new.section) c.in-Err.error
    c.loop.invariant c.in-Err.ensures

pub returns-then-eq : goal.returns-then-eq
returns-then-eq g c =
    let same : link_eq (block_of c.read_next.new.section).cid (link_of c.args.cid.now) ≡ true =
    let e = c.eq.ensures in let t = c.if-eq.true in let n = c.cid.ensures in cc in
    looked_found _ (g.R.Read.remaining c.loop.car.reader) _ _ c.loop.car _ (link_of c.args.cid.now) (block_of c.read_next.new.section)
    c.loop.invariant (rw c.in-Ok-true.field-0-test at c.in-Ok-true.ensures) same
