use Rattle.std.proofs.Common.{◌≡◌, length, drop, Err, refl, subst, arith}
use Rattle.ipld_car.specs.Opening.{ReadsRootsAt}
use Rattle.ipld_car.proofs.Openings.{version2_before, version2_header, version2_opens, version2_roots}
use Rattle.ipld_car.proofs.opening.open_version2.Goals as goal

pub returns-in-Err : goal.returns-in-Err
returns-in-Err g c = version2_before _ _ _ _ c.in-Err.ensures

pub returns-in-Err-read_block : goal.returns-in-Err-read_block
returns-in-Err-read_block g c =
    let read = c.in-Err-read_block.ensures in
    let counted : c.len.result ≡ length c.read_block.new.taken.items = omega arith in
    rw c.short_payload.ensures (version2_header _ _ _ _ _ _ _ _ _ c.in-Ok.ensures read.consumed read.within counted read.read)

pub returns-in-Ok-roots_at : goal.returns-in-Ok-roots_at
returns-in-Ok-roots_at g c =
    let read = c.in-Ok-read_block.ensures in
    let ends = c.in-Ok.ensures.places.ends in
    let counted : c.len-in-Ok-roots_at.result ≡ length c.read_block.new.taken.items = omega arith in
    rw counted (version2_opens _ _ _ _ _ _ _ _ _ _ c.in-Ok.ensures read.consumed read.within (omega arith) read.read (rw c.deref.ensures.value at c.in-Ok-roots_at.ensures) refl)

pub returns-in-Err-roots_at : goal.returns-in-Err-roots_at
returns-in-Err-roots_at g c =
    let read = c.in-Ok-read_block.ensures in
    version2_roots _ _ _ _ _ _ _ _ _ c.in-Ok.ensures read.consumed read.read
    (subst (λ xs. ReadsRootsAt (drop c.in-Ok-read_block.start xs) c.in-Ok.payload.start c.in-Ok-read_block.start (Err c.in-Err-roots_at.error)) c.deref.ensures.value c.in-Err-roots_at.ensures)
