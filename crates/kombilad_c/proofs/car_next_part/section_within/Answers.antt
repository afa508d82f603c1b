use Rattle.std.proofs.Common.{◌-◌, length}
use Rattle.kombilad_c.proofs.CarParts.{between_all, at_front, content_within}
use Rattle.kombilad_c.proofs.car_next_part.section_within.Goals as goal

pub returns-in-Ok-Some-clause-found : goal.returns-in-Ok-Some-clause-found
returns-in-Ok-Some-clause-found c =
    let bytes = c.args.bytes.now in
    let all = between_all c.args.room bytes c.requires.within in
    let found = rw (c.in-Ok-Some.field-0-is, all) at c.in-Ok-Some.ensures.found in
    (found.1.0, found.1.1, content_within c.args.limit bytes found.1.0 c.in-Ok-Some.span c.in_default.ensures found.1.1)

pub returns-in-Err-clause-fault : goal.returns-in-Err-clause-fault
returns-in-Err-clause-fault c =
    let bytes = c.args.bytes.now in
    let fault = rw (between_all c.args.room bytes c.requires.within) at c.in-Err.ensures.fault in
    at_front c.args.limit bytes c.args.room (c.args.room - 0) (length bytes - 0) c.in-Err.error c.in_default.ensures fault.1
