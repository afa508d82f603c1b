use Rattle.std.proofs.Common.{ℕ, ◌<◌, ◌+◌, Some, take, drop, get_or, sym, ap, length, ◌∙◌, arith}
use Rattle.ipld_cid.proofs.VarintReading.{fits_at, group_at}
use Rattle.ipld_car.proofs.LengthReading.{length_faulty, length_done, groups_more, sound_at}
use Rattle.ipld_car.proofs.LengthsInMemory.{byte_at, length_cut_in, no_zero}
use Rattle.ipld_car.proofs.frame_in.length_in.Goals as goal

pub returns-in-Some-clause-read : goal.returns-in-Some-clause-read
returns-in-Some-clause-read c =
    let bytes = c.args.bytes.now in
    let place = c.loop-place.place in
    let whole : get_or bytes place 0 < 256 = omega (arith, c.type_inv.bytes place) in
    length_faulty _ _ _ _ _ _ _ _ _ _ c.loop-place.invariant (byte_at bytes place c.loop-place-test.true whole) (sym c.error_at.ensures ∙ c.in-Some.is)

pub returns-then-byte-lt128-clause-read : goal.returns-then-byte-lt128-clause-read
returns-then-byte-lt128-clause-read c =
    let bytes = c.args.bytes.now in
    let place = c.loop-place.place in
    let byte : ℕ = get_or bytes place 0 in
    let so_far = c.loop-place.invariant in
    let whole : byte < 256 = omega (arith, c.type_inv.bytes place) in
    let sound = sound_at place byte (sym c.error_at.ensures ∙ c.in_default.is) in
    let fits = fits_at place byte so_far.few whole sound in
    let added = group_at c.loop-place.value place byte fits.0 so_far.below fits.1 fits.2 in
    rw (c.from.ensures, added) (length_done (Some bytes) (Some (drop place bytes)) (Some (drop (place + 1) bytes)) (take place bytes) (take (place + 1) bytes) c.loop-place.value place (length bytes) byte so_far (byte_at bytes place c.loop-place-test.true whole) sound (omega arith))

pub loop-place-preserved : goal.loop-place-preserved
loop-place-preserved c =
    let bytes = c.args.bytes.now in
    let place = c.loop-place.place in
    let byte : ℕ = get_or bytes place 0 in
    let so_far = c.loop-place.invariant in
    let whole : byte < 256 = omega (arith, c.type_inv.bytes place) in
    let sound = sound_at place byte (sym c.error_at.ensures ∙ c.in_default.is) in
    let fits = fits_at place byte so_far.few whole sound in
    let added = group_at c.loop-place.value place byte fits.0 so_far.below fits.1 fits.2 in
    rw (c.from.ensures, added) (groups_more (Some bytes) (Some (drop place bytes)) (Some (drop (place + 1) bytes)) (take place bytes) (take (place + 1) bytes) c.loop-place.value place (length bytes) byte so_far (byte_at bytes place c.loop-place-test.true whole) sound (omega arith))

pub returns-else-is_empty-clause-read : goal.returns-else-is_empty-clause-read
returns-else-is_empty-clause-read c =
    length_cut_in c.args.bytes.now c.loop-place.value c.loop-place.place c.loop-place.invariant (omega arith)
    (λ none. no_zero (length c.args.bytes.now) (ap length none) (sym c.is_empty.ensures ∙ c.if-is_empty.false))
