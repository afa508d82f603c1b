use Rattle.std.proofs.Common.{◌≡◌, ◌≤◌, ◌∙◌, length, take, drop, Some, Ok, IfOk, IfSome, IfErr, ap, sym, subst, arith}
use Rattle.ipld_car.specs.Framing.{ReadsFramed, fault_place}
use Rattle.ipld_car.specs.Taking.{IsOfReader}
use Rattle.ipld_car.proofs.LengthsInMemory.{take_len}
use Rattle.ipld_car.proofs.SectionsInMemory.{split_some, split_unnamed, split_fails}
use Rattle.ipld_car.proofs.span.split_section.Goals as goal

pub returns-in-Ok : goal.returns-in-Ok
returns-in-Ok c =
    let framed = c.frame_in-taken.ensures in
    let bytes = c.args.bytes.now in
    let taken = c.frame_in-taken.result.0 in
    let some : c.in-Ok-Some.field-0 ≡ Some c.in-Ok-Some.start = rw c.in-Ok-Some.is at c.in-Ok-Some.field-0-is in
    let is = c.in-Ok-Some.is ∙ ap Ok some in
    let behind = subst (λ r. IfOk r (λ some. IfSome some (λ start. start ≤ taken))) is framed.starts in
    let read = subst (λ r. ReadsFramed 18446744073709551615 (length bytes) (Some bytes) (Some (drop taken bytes)) (take taken bytes) r) is framed.read in
    split_some bytes c.args.at 18446744073709551615 c.in-Ok-Some.start taken _ c.in-Ok.block.now framed.within behind read c.in-Ok.ensures.found

pub returns-in-Err-split_front : goal.returns-in-Err-split_front
returns-in-Err-split_front c =
    let framed = c.frame_in-taken.ensures in
    let bytes = c.args.bytes.now in
    let taken = c.frame_in-taken.result.0 in
    let some : c.in-Ok-Some.field-0 ≡ Some c.in-Ok-Some.start = rw c.in-Ok-Some.is at c.in-Ok-Some.field-0-is in
    let is = c.in-Ok-Some.is ∙ ap Ok some in
    let behind = subst (λ r. IfOk r (λ some. IfSome some (λ start. start ≤ taken))) is framed.starts in
    let read = subst (λ r. ReadsFramed 18446744073709551615 (length bytes) (Some bytes) (Some (drop taken bytes)) (take taken bytes) r) is framed.read in
    let none = c.in-Err-split_front.ensures in
    split_unnamed bytes c.args.at 18446744073709551615 c.in-Ok-Some.start taken c.in-Err-split_front.error c.section_error.result (omega arith) behind read none.error none.only c.section_error.ensures

pub returns-in-Err : goal.returns-in-Err
returns-in-Err c =
    let framed = c.frame_in-taken.ensures in
    let bytes = c.args.bytes.now in
    let taken = c.frame_in-taken.result.0 in
    let read = subst (λ r. ReadsFramed 18446744073709551615 (length bytes) (Some bytes) (Some (drop taken bytes)) (take taken bytes) r) c.in-Err.is framed.read in
    let own = subst (λ r. IfErr r (λ kind. IsOfReader kind → ⊥)) c.in-Err.is framed.own in
    let counted = take_len bytes taken framed.within in
    split_fails bytes c.args.at 18446744073709551615 taken c.fault_place-place.result c.in-Err.kind c.section_error-in-Err.result (omega arith) read own
    (c.fault_place-place.ensures.place ∙ ap (fault_place c.in-Err.kind) (sym counted)) c.section_error-in-Err.ensures
