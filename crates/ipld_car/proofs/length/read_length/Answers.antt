use Rattle.std.proofs.Common.{sym, ◌∙◌}
use Rattle.std.proofs.lemmas.Result.{err_from_is_err_and}
use Rattle.ipld_cid.proofs.VarintReading.{fits_at, group_at}
use Rattle.ipld_car.proofs.LengthReading.{length_cut, length_fails, length_faulty, length_done, groups_more, sound_at}
use Rattle.ipld_car.proofs.length.read_length.Goals as goal

pub returns-in-Some-error_at-clause-read : goal.returns-in-Some-error_at-clause-read
returns-in-Some-error_at-clause-read g c =
    length_faulty _ _ _ _ _ _ _ _ _ _ c.loop-place.invariant (rw c.in-Some.is at c.in_ok-byte.ensures) (sym c.error_at.ensures ∙ c.in-Some-error_at.is)

pub returns-then-byte-lt128-clause-read : goal.returns-then-byte-lt128-clause-read
returns-then-byte-lt128-clause-read g c =
    let took = rw c.in-Some.is at c.in_ok-byte.ensures in
    let so_far = c.loop-place.invariant in
    let sound = sound_at c.loop-place.place c.in-Some.byte (sym c.error_at.ensures ∙ c.in_default-error_at.is) in
    let fits = fits_at c.loop-place.place c.in-Some.byte so_far.few took.2 sound in
    let added = group_at c.loop-place.value c.loop-place.place c.in-Some.byte fits.0 so_far.below fits.1 fits.2 in
    rw (c.from.ensures, added) (length_done _ _ _ _ _ _ _ _ _ so_far took sound c.if-byte-lt128.true)

pub loop-place-preserved : goal.loop-place-preserved
loop-place-preserved g c =
    let took = rw c.in-Some.is at c.in_ok-byte.ensures in
    let so_far = c.loop-place.invariant in
    let sound = sound_at c.loop-place.place c.in-Some.byte (sym c.error_at.ensures ∙ c.in_default-error_at.is) in
    let fits = fits_at c.loop-place.place c.in-Some.byte so_far.few took.2 sound in
    let added = group_at c.loop-place.value c.loop-place.place c.in-Some.byte fits.0 so_far.below fits.1 fits.2 in
    rw (c.from.ensures, added) (groups_more _ _ _ _ _ _ _ _ _ so_far took sound c.if-byte-lt128.false)

pub returns-in_err-byte-clause-read : goal.returns-in_err-byte-clause-read
returns-in_err-byte-clause-read g c =
    let p = err_from_is_err_and c.from_residual.result c.from_residual.ensures.1 in
    rw (p.1, p.2) ((length_fails _ _ _ _ _ _ _ _ _ c.loop-place.invariant c.in_err-byte.ensures).0)

pub returns-else-place-eq0-clause-read : goal.returns-else-place-eq0-clause-read
returns-else-place-eq0-clause-read g c =
    length_cut _ _ _ _ _ _ _ _ c.loop-place.invariant (rw c.in_default.is at c.in_ok-byte.ensures) c.if-place-eq0.false
