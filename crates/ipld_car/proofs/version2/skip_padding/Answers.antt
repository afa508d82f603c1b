use Rattle.std.proofs.Common.{◌≡◌, length, arith}
use Rattle.ipld_car.proofs.Skipping.{skips_part, skips_until}
use Rattle.ipld_car.proofs.version2.skip_padding.Goals as goal

pub returns-in-Ok-false-clause-skips : goal.returns-in-Ok-false-clause-skips
returns-in-Ok-false-clause-skips g c =
    let counted : c.len.result ≡ length c.fill.new.taken.items = omega arith in
    skips_part _ _ _ _ _ _ _ _ _ _ c.loop-left.invariant.0 c.clear.ensures.items (rw c.in-Ok-false.field-0-test at c.in-Ok-false.ensures) (omega arith) counted c.section_error.ensures

pub returns-in-Err-clause-skips : goal.returns-in-Err-clause-skips
returns-in-Err-clause-skips g c =
    let counted : c.len-in-Err.result ≡ length c.fill.new.taken.items = omega arith in
    skips_until _ _ _ _ _ _ _ _ _ _ _ c.loop-left.invariant.0 c.clear.ensures.items c.in-Err.ensures (omega arith) counted c.section_error-in-Err.ensures
