use Rattle.std.proofs.Common.{◌<◌, ◌≤◌, ◌-◌, min, arith, refl}
use Rattle.ipld_car.specs.InMemory.{between}
use Rattle.ipld_car.proofs.SectionsInMemory.{only_span, parts_inside, section_missing, section_fault, no_fault_there}
use Rattle.ipld_car.proofs.span.section_at.Goals as goal

pub returns-in-Ok-Some-clause-only : goal.returns-in-Ok-Some-clause-only
returns-in-Ok-Some-clause-only c = λ block section rest less parts is.
    let split = rw (c.in-Ok-Some.field-0-is, c.window.ensures.bytes) at c.in-Ok-Some.ensures in
    only_span (between c.args.at c.args.end c.args.car.now) c.args.at c.in-Ok-Some.span split.0 split.1 block section rest parts is

pub returns-in-Ok-Some-clause-inside : goal.returns-in-Ok-Some-clause-inside
returns-in-Ok-Some-clause-inside c =
    let split = rw (c.in-Ok-Some.field-0-is, c.window.ensures.bytes) at c.in-Ok-Some.ensures in
    parts_inside c.args.at c.args.end c.args.car.now c.in-Ok-Some.span split.0 (omega arith) split.1

pub returns-in-Ok-None-clause-fault : goal.returns-in-Ok-None-clause-fault
returns-in-Ok-None-clause-fault c =
    let none = rw (c.in-Ok-None.field-0-is, c.window.ensures.bytes) at c.in-Ok-None.ensures in
    let less : c.args.at < c.args.end = omega arith in
    let behind : c.min-start.result ≤ c.args.at = rw c.min-start.ensures (omega (arith, min)) in
    rw (← c.min-start.ensures, ← c.saturating_sub-found.ensures) (
      less,
      section_missing c.args.at c.args.end c.min-start.result (c.args.end - c.min-start.result) c.saturating_sub-found.result c.args.car.now c.section_error.result less behind refl
          c.saturating_sub-found.ensures none c.section_error.ensures,
    )

pub returns-in-Err-clause-fault : goal.returns-in-Err-clause-fault
returns-in-Err-clause-fault c =
    let looks = rw c.window.ensures.bytes at c.in-Err.ensures in
    let less : c.args.at < c.args.end = omega arith in
    let behind : c.min-start.result ≤ c.args.at = rw c.min-start.ensures (omega (arith, min)) in
    rw (← c.min-start.ensures, ← c.saturating_sub-found.ensures, c.short_payload.ensures) (
      less,
      section_fault c.args.at c.args.end c.min-start.result (c.args.end - c.min-start.result) c.saturating_sub-found.result looks.0 c.args.car.now c.in-Err.error less behind refl
          c.saturating_sub-found.ensures looks.1,
    )

pub returns-in-Err-clause-only : goal.returns-in-Err-clause-only
returns-in-Err-clause-only c = λ block section rest less parts is.
    let looks = rw c.window.ensures.bytes at c.in-Err.ensures in
    no_fault_there (between c.args.at c.args.end c.args.car.now) c.args.at looks.0 c.in-Err.error looks.1 block section rest parts is
