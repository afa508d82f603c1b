use Rattle.std.proofs.Common.{Some, sym, subst, arith}
use Rattle.std.proofs.lemmas.List.{take_rest}
use Rattle.ipld_car.specs.Position.{FaultOf}
use Rattle.kombilad_c.proofs.CarParts.{IsShort, not_short}
use Rattle.kombilad_c.proofs.CarFronts.{IsEnd, not_end, from_front, from_all, fault_further, needs_in_header, needs_in_version2, needs_in_payload}
use Rattle.kombilad_c.proofs.car_open_part.missing_in_front.Goals as goal

pub returns-then-is_all-ne0-clause-needs : goal.returns-then-is_all-ne0-clause-needs
returns-then-is_all-ne0-clause-needs c = λ limit fault whole k.
    subst (λ xs. FaultOf limit (Some xs) c.args.error.now) (sym (from_all c.args.car.now whole c.args.is_all k c.if-is_all-ne0.true)) fault

pub returns-then-error-eq0-clause-needs : goal.returns-then-error-eq0-clause-needs
returns-then-error-eq0-clause-needs c = λ limit fault. (
  c.if-is_all-ne0.false,
  needs_in_header limit c.args.car.now c.args.error.now c.missing.result (omega arith) (subst IsEnd (sym c.in-UnexpectedEnd.is) tt) c.if-error-eq0.true fault c.missing.ensures,
)

pub returns-then-error-lt51-clause-needs : goal.returns-then-error-lt51-clause-needs
returns-then-error-lt51-clause-needs c = λ limit fault. (
  c.if-is_all-ne0.false,
  needs_in_version2 limit c.args.car.now c.args.error.now c.missing_before_payload.result (subst IsEnd (sym c.in-UnexpectedEnd.is) tt) c.if-error-eq0.false (omega arith) fault
      c.missing_before_payload.ensures,
)

pub returns-else-error-lt51-clause-needs : goal.returns-else-error-lt51-clause-needs
returns-else-error-lt51-clause-needs c = λ limit fault whole k.
    subst (λ xs. FaultOf limit (Some xs) c.args.error.now) (sym (from_front c.args.car.now whole c.args.is_all k))
    (fault_further limit c.args.car.now k.more c.args.error.now (λ is. subst IsShort c.in-UnexpectedEnd.is is) (λ is. c.if-error-lt51.false) fault)

pub returns-in-ShortPayload-clause-needs : goal.returns-in-ShortPayload-clause-needs
returns-in-ShortPayload-clause-needs c = λ limit fault. (
  c.if-is_all-ne0.false,
  needs_in_payload limit c.args.car.now c.args.error.now c.min-start.result c.missing-in-ShortPayload.result c.in-ShortPayload.expected c.in-ShortPayload.found c.in-ShortPayload.is
      c.min-start.ensures fault (rw (take_rest c.args.car.now c.min-start.result) at c.missing-in-ShortPayload.ensures),
)

pub returns-in_default-clause-needs : goal.returns-in_default-clause-needs
returns-in_default-clause-needs c = λ limit fault whole k.
    subst (λ xs. FaultOf limit (Some xs) c.args.error.now) (sym (from_front c.args.car.now whole c.args.is_all k))
    (fault_further limit c.args.car.now k.more c.args.error.now (not_short c.args.error.now.kind c.in_default.not-ShortPayload)
    (λ is. absurd (not_end c.args.error.now.kind c.in_default.not-UnexpectedEnd is)) fault)
