use Rattle.std.proofs.Common.{◌≡◌, ◌+◌, min, arith}
use Rattle.kombilad_c.proofs.CarLengths.{missing_found}
use Rattle.kombilad_c.proofs.car_place.missing.Goals as goal

pub returns-in-Some : goal.returns-in-Some
returns-in-Some c = λ limit cut short.
    let end : c.min-end.result ≡ min (c.in-Some.number + c.in-Some.count) c.args.room = let s = c.saturating_add.ensures in let m = c.min-end.ensures in omega (arith, min, c.ranges.room) in
    missing_found limit c.args.room c.args.bytes.now c.in-Some.number c.in-Some.count c.saturating_sub.result c.in-Some.ensures cut short
    (rw end at c.saturating_sub.ensures)
