use Rattle.std.proofs.Common.{◌≡◌, length, take, drop, Some, Ok, ap, subst, ◌∙◌, arith}
use Rattle.ipld_car.specs.Lengths.{ReadsLength}
use Rattle.ipld_car.proofs.FramesInMemory.{frame_short}
use Rattle.ipld_car.proofs.frame_in.frame_in.Goals as goal

pub returns-then-length-bytes-clause-read : goal.returns-then-length-bytes-clause-read
returns-then-length-bytes-clause-read c =
    let bytes = c.args.bytes.now in
    let start = c.length_in-start.result.0 in
    let some : c.in-Ok-Some.field-0 ≡ Some c.in-Ok-Some.length = rw c.in-Ok-Some.is at c.in-Ok-Some.field-0-is in
    let read = subst (λ r. ReadsLength (length bytes) (Some bytes) (Some (drop start bytes)) (take start bytes) r) (c.in-Ok-Some.is ∙ ap Ok some) c.length_in-start.ensures.read in
    frame_short c.args.limit bytes start c.in-Ok-Some.length read c.length_in-start.ensures.within (omega arith) (omega arith)
