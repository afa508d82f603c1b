use Rattle.kombilad_c.proofs.CarLengths.{within_found, within_none}
use Rattle.kombilad_c.proofs.car_place.length_over.Goals as goal

pub returns-else-number-limit : goal.returns-else-number-limit
returns-else-number-limit c = within_found c.args.limit c.args.bytes.now c.in-Some.number c.in-Some.field-0-1 c.in-Some.ensures c.if-number-limit.false

pub returns-in-None : goal.returns-in-None
returns-in-None c = within_none c.args.limit c.args.bytes.now c.in-None.ensures
