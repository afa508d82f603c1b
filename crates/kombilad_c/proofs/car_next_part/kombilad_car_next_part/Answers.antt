use Rattle.std.proofs.Common.{ℕ, eqb, take, length, inr, refl, ap, sym, ◌∙◌, arith}
use Rattle.std.proofs.lemmas.Bool.{ne_eqb, eq-eqb, eqb-false}
use Rattle.kombilad_c.specs.CarPart.{spans_from}
use Rattle.kombilad_c.proofs.CarParts.{not_short, found_part, fault_part, short_part, end_part}
use Rattle.kombilad_c.proofs.car_next_part.kombilad_car_next_part.Goals as goal

pub returns-in-Ok-clause-exact : goal.returns-in-Ok-clause-exact
returns-in-Ok-clause-exact c = inr (
  refl,
  λ car k.
      let place = c.args.place.now in
      let b = c.args.bytes.now in
      let found = c.in-Ok.ensures.found in
      let inside = c.in-Ok.ensures.inside in
      found_part c.args.limit (eqb place.version 1) place.end place.at b (take c.min.result b) car c.args.is_all found.0 c.in-Ok.span
      (spans_from place.at c.args.cid.now c.args.block.now place.at) c.args.offset.now (rw c.open_end-end.ensures at c.if-place-end.false)
      (ap (λ (n : ℕ). take n b) (rw c.open_end-end.ensures at c.min.ensures)) k found.1 found.2 inside.0 inside.1 inside.2,
)

pub returns-in_default : goal.returns-in_default
returns-in_default c = record {
  kept = (refl, refl);
  exact = inr (
    refl,
    λ car k.
        let place = c.args.place.now in
        let b = c.args.bytes.now in
        fault_part c.args.limit (eqb place.version 1) place.end place.at b (take c.min.result b) car c.args.is_all c.in-Err.error.kind c.in-Err.error.offset
        c.car_status-in_default.result c.args.offset.now (spans_from place.at c.args.cid.now c.args.block.now place.at)
        (rw c.open_end-end.ensures at c.if-place-end.false) (ap (λ (n : ℕ). take n b) (rw c.open_end-end.ensures at c.min.ensures)) k
        (not_short c.in-Err.error.kind c.in_default.not-ShortPayload) (rw c.open_end-end.ensures at c.in-Err.ensures.fault)
        c.car_status-in_default.ensures,
  );
}

pub returns-then-place-ne1-clause-exact : goal.returns-then-place-ne1-clause-exact
returns-then-place-ne1-clause-exact c = inr (
  refl,
  λ car k.
      let place = c.args.place.now in
      let b = c.args.bytes.now in
      short_part c.args.limit (eqb place.version 1) place.end place.at b (take c.min.result b) car c.args.is_all c.in-Err.error.offset c.in-ShortPayload.expected
      c.in-ShortPayload.found c.car_status.result c.args.offset.now (spans_from place.at c.args.cid.now c.args.block.now place.at)
      (ne_eqb place.version 1 c.if-place-ne1.true) (rw c.open_end-end.ensures at c.if-place-end.false)
      (ap (λ (n : ℕ). take n b) (rw c.open_end-end.ensures at c.min.ensures)) k c.if-is_all-eq0.false
      (rw (c.in-ShortPayload.is, c.open_end-end.ensures) at c.in-Err.ensures.fault) c.car_status.ensures,
)

pub returns-else-is_empty-clause-exact : goal.returns-else-is_empty-clause-exact
returns-else-is_empty-clause-exact c = inr (
  refl,
  λ car k.
      let place = c.args.place.now in
      let b = c.args.bytes.now in
      let some = eqb-false (length b) 0 (sym c.is_empty.ensures ∙ c.if-is_empty.false) in
      end_part c.args.limit (eqb place.version 1) place.end place.at b (take c.min.result b) car c.args.is_all c.in-Err.error.offset c.in-ShortPayload.expected
      c.in-ShortPayload.found c.car_status-in-ShortPayload.result c.args.offset.now (spans_from place.at c.args.cid.now c.args.block.now place.at)
      (eq-eqb place.version 1 c.if-place-ne1.false) (omega arith) (rw c.open_end-end.ensures at c.if-place-end.false)
      (ap (λ (n : ℕ). take n b) (rw c.open_end-end.ensures at c.min.ensures)) k c.if-is_all-eq0.false
      (rw (c.in-ShortPayload.is, c.open_end-end.ensures) at c.in-Err.ensures.fault) c.car_status-in-ShortPayload.ensures,
)
