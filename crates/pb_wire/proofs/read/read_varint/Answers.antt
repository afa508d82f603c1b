use Rattle.std.proofs.Common.{ℕ, ◌%◌, ◌<◌, ◌+◌, get_or, sym, ◌∙◌, arith}
use Rattle.std.proofs.lemmas.List.{take_rest}
use Rattle.pb_wire.specs.Reading.{read_varint}
use Rattle.ipld_cid.proofs.VarintReading.{group_at, below_more}
use Rattle.pb_wire.proofs.VarintLoop.{stops, finishes, goes_on, runs_out, fits_at, more_follow}
use Rattle.pb_wire.proofs.read.read_varint.Goals as goal

pub returns-then-overflows-clause-exact : goal.returns-then-overflows-clause-exact
unfolding read_varint
returns-then-overflows-clause-exact c =
    stops c.loop-place.value c.loop-place.place c.args.bytes.now (omega arith) c.loop-place.invariant.rest (sym c.overflows.ensures ∙ c.if-overflows.true)

pub returns-then-byte-lt128-clause-exact : goal.returns-then-byte-lt128-clause-exact
unfolding read_varint
returns-then-byte-lt128-clause-exact c =
    let bytes = c.args.bytes.now in
    let value = c.loop-place.value in
    let place = c.loop-place.place in
    let byte : ℕ = get_or bytes place 0 in
    let sound = sym c.overflows.ensures ∙ c.if-overflows.false in
    let fits = fits_at place byte c.loop-place.invariant.few (omega (arith, c.type_inv.bytes place)) sound in
    let added = group_at value place byte fits.0 c.loop-place.invariant.below fits.1 fits.2 in
    rw (c.from.ensures, added, take_rest bytes (place + 1)) (finishes value place bytes (omega arith) c.loop-place.invariant.rest sound (omega arith))

pub loop-place-preserved : goal.loop-place-preserved
loop-place-preserved c =
    let bytes = c.args.bytes.now in
    let value = c.loop-place.value in
    let place = c.loop-place.place in
    let byte : ℕ = get_or bytes place 0 in
    let sound = sym c.overflows.ensures ∙ c.if-overflows.false in
    let whole : byte < 256 = omega (arith, c.type_inv.bytes place) in
    let fits = fits_at place byte c.loop-place.invariant.few whole sound in
    let added = group_at value place byte fits.0 c.loop-place.invariant.below fits.1 fits.2 in
    rw (c.from.ensures, added) (record {
      few = more_follow place byte c.loop-place.invariant.few sound (omega arith);
      below = below_more value place (byte % 128) c.loop-place.invariant.below (omega arith);
      rest = goes_on value place bytes (omega arith) c.loop-place.invariant.rest sound (omega arith) whole;
    })

pub returns-clause-exact : goal.returns-clause-exact
unfolding read_varint
returns-clause-exact c = runs_out c.loop-place.value c.loop-place.place c.args.bytes.now (omega arith) c.loop-place.invariant.rest
