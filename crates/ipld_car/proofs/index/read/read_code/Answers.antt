use Rattle.std.proofs.Common.{rules, sym, ap, Some, ◌∙◌}
use Rattle.std.proofs.lemmas.Result.{err_from_is_err_and}
use Rattle.ipld_cid.proofs.VarintReading.{fits_at, group_at}
use Rattle.ipld_car.proofs.LengthReading.{sound_at}
use Rattle.ipld_car.proofs.index.Formats.{code_more, code_done, code_ends, code_too_large, code_not_shortest}
use Rattle.ipld_car.proofs.index.read.read_code.Goals as goal

pub returns-in_err-byte-clause-wrong : goal.returns-in_err-byte-clause-wrong
returns-in_err-byte-clause-wrong g c =
    let error = err_from_is_err_and c.from_residual.result c.from_residual.ensures.1 in
    rw (error.1, error.2) (code_ends _ _ _ _ c.in_err-byte.field-0.0 c.loop-place.invariant c.in_err-byte.ensures.fails)

pub returns-then-byte-lt128-clause-takes : goal.returns-then-byte-lt128-clause-takes
returns-then-byte-lt128-clause-takes g c =
    let so_far = c.loop-place.invariant in
    let sound = sound_at c.loop-place.place c.in_ok-byte.byte (sym c.error_at.ensures ∙ c.in_default.is) in
    let fits = fits_at c.loop-place.place c.in_ok-byte.byte so_far.groups.few (search rules) sound in
    let added = group_at c.loop-place.code c.loop-place.place c.in_ok-byte.byte fits.0 so_far.groups.below fits.1 fits.2 in
    rw (c.from.ensures, added) (code_done _ _ _ _ _ _ so_far c.in_ok-byte.ensures.takes (search rules) sound c.if-byte-lt128.true)

pub loop-place-preserved : goal.loop-place-preserved
loop-place-preserved g c =
    let so_far = c.loop-place.invariant in
    let sound = sound_at c.loop-place.place c.in_ok-byte.byte (sym c.error_at.ensures ∙ c.in_default.is) in
    let fits = fits_at c.loop-place.place c.in_ok-byte.byte so_far.groups.few (search rules) sound in
    let added = group_at c.loop-place.code c.loop-place.place c.in_ok-byte.byte fits.0 so_far.groups.below fits.1 fits.2 in
    rw (c.from.ensures, added) (code_more _ _ _ _ _ _ so_far c.in_ok-byte.ensures.takes (search rules) sound c.if-byte-lt128.false)

pub returns-in-LengthTooLarge-clause-wrong : goal.returns-in-LengthTooLarge-clause-wrong
returns-in-LengthTooLarge-clause-wrong g c =
    code_too_large _ _ _ _ _ _ c.loop-place.invariant c.in_ok-byte.ensures.takes (search rules) (sym c.error_at.ensures ∙ c.in-Some.is ∙ ap Some c.in-LengthTooLarge.is)

pub returns-in_default-kind : goal.returns-in_default-kind
returns-in_default-kind g c = record {
  takes = tt;
  wrong = code_not_shortest _ _ _ _ _ _ c.loop-place.invariant c.in_ok-byte.ensures.takes (search rules) c.in-Some.kind (sym c.error_at.ensures ∙ c.in-Some.is) c.in_default-kind.not-LengthTooLarge;
}
