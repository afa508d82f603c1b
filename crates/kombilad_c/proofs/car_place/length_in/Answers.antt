use Rattle.std.proofs.Common.{ℕ, ◌%◌, ◌*◌, ◌^◌, ◌<◌, ◌+◌, get_or, sym, ◌∙◌, arith}
use Rattle.ipld_cid.specs.Varint.{read_varint}
use Rattle.ipld_cid.specs.declared.error.CidError.TheVariants.{End}
use Rattle.ipld_cid.proofs.VarintReading.{stops, finishes, goes_on, runs_out, below_more, fits_at, more_follow, group_at}
use Rattle.kombilad_c.proofs.CarLengths.{length_found}
use Rattle.kombilad_c.proofs.car_place.length_in.Goals as goal

pub returns-in-Some : goal.returns-in-Some
unfolding read_varint
returns-in-Some c =
    (c.in-Some._error, stops c.loop-place.value c.loop-place.place c.args.bytes.now c.in-Some._error (omega arith) c.loop-place.invariant.rest (sym c.in-Some.ensures))

pub returns-then-byte-lt128 : goal.returns-then-byte-lt128
unfolding read_varint
returns-then-byte-lt128 c =
    let bytes = c.args.bytes.now in
    let value = c.loop-place.value in
    let place = c.loop-place.place in
    let byte : ℕ = get_or bytes place 0 in
    let fits = fits_at place byte c.loop-place.invariant.few (omega (arith, c.type_inv.bytes place)) (sym c.error_at.ensures ∙ c.in_default.is) in
    let added = group_at value place byte fits.0 c.loop-place.invariant.below fits.1 fits.2 in
    rw (c.from.ensures, added) (length_found bytes (value + byte % 128 * 2 ^ (7 * place)) (place + 1) (λ i. omega (arith, c.type_inv.bytes i)) (omega arith)
    (finishes value place bytes (omega arith) c.loop-place.invariant.rest (sym c.error_at.ensures ∙ c.in_default.is) (omega arith)))

pub loop-place-preserved : goal.loop-place-preserved
loop-place-preserved c =
    let bytes = c.args.bytes.now in
    let value = c.loop-place.value in
    let place = c.loop-place.place in
    let byte : ℕ = get_or bytes place 0 in
    let sound = sym c.error_at.ensures ∙ c.in_default.is in
    let whole : byte < 256 = omega (arith, c.type_inv.bytes place) in
    let fits = fits_at place byte c.loop-place.invariant.few whole sound in
    let added = group_at value place byte fits.0 c.loop-place.invariant.below fits.1 fits.2 in
    rw (c.from.ensures, added) (record {
      few = more_follow place byte c.loop-place.invariant.few sound (omega arith);
      below = below_more value place (byte % 128) c.loop-place.invariant.below (omega arith);
      rest = goes_on value place bytes (omega arith) c.loop-place.invariant.rest sound (omega arith) whole;
    })

pub returns : goal.returns
unfolding read_varint
returns c = (End, runs_out c.loop-place.value c.loop-place.place c.args.bytes.now (omega arith) c.loop-place.invariant.rest)
