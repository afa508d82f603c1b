use Rattle.std.proofs.Common.{inl, inr, refl, subst, sym, ap, ◌∙◌, ◌++◌, ◌-◌, ◌^◌, Some}
use Rattle.std.specs.Prelude.{map, unwrap_or}
use Rattle.std.proofs.lemmas.Simd.{map-map}
use Rattle.ipld_cid.specs.LinkOf.{link_of}
use Rattle.kombilad_c.specs.Car.{version_number}
use Rattle.kombilad_c.specs.CidRecord.{record_of}
use Rattle.kombilad_c.specs.Fill.{Fills}
use Rattle.kombilad_c.proofs.CarFronts.{from_front, opened_at, last_of, same_place}
use Rattle.kombilad_c.proofs.car_open_part.kombilad_car_open_part.Goals as goal

pub returns-in-Ok-clause-exact : goal.returns-in-Ok-clause-exact
returns-in-Ok-clause-exact c =
    let reader = c.in-Ok.reader in
    let version = c.version.ensures in
    let listed = ap (map (λ cid. record_of (link_of cid))) c.roots.ensures ∙ sym (map-map record_of link_of reader.roots.items) in
    inr (
      refl,
      λ car k. inl (
        map link_of reader.roots.items,
        record {
          version = reader.version;
          left = Some (reader.reader.now ++ k.more);
          start = reader.start;
          opens = opened_at c.args.limit c.args.bytes.now k.more car reader.reader.now reader.version (map link_of reader.roots.items) reader.start reader.offset reader.end c.offset.result
              c.unwrap_or.result c.in-Ok.ensures.opens.0 (from_front c.args.bytes.now car c.args.is_all k) c.offset.ensures
              (c.unwrap_or.ensures ∙ ap (λ end. unwrap_or end (2 ^ 64 - 1)) c.end.ensures);
          numbered = c.number_of.ensures ∙ ap version_number version;
        },
        subst (λ content. Fills content c.fill_roots.result c.args.roots.now c.fill_roots.new.buffer c.fill_roots.new.needed) listed c.fill_roots.ensures,
        refl,
      ),
    )

pub returns-in-Ok-clause-only : goal.returns-in-Ok-clause-only
returns-in-Ok-clause-only c = λ version front rest links start end parts is within fits.
    let reader = c.in-Ok.reader in
    let opened = c.in-Ok.ensures.only version front rest links start end (ap Some parts) is within fits in
    let found = c.version.ensures ∙ opened.version_is in
    let listed = ap (map (λ cid. record_of (link_of cid))) c.roots.ensures ∙ sym (map-map record_of link_of reader.roots.items) ∙ ap (map record_of) opened.roots_are in
    inr (
      same_place _ _ _ _ _ _ (c.number_of.ensures ∙ ap version_number found) (c.offset.ensures ∙ opened.stands)
          (last_of c.args.limit version reader.version front links start end reader.end c.unwrap_or.result is opened.version_is opened.ends
          (c.unwrap_or.ensures ∙ ap (λ end. unwrap_or end (2 ^ 64 - 1)) c.end.ensures)),
      subst (λ content. Fills content c.fill_roots.result c.args.roots.now c.fill_roots.new.buffer c.fill_roots.new.needed) listed c.fill_roots.ensures,
    )

pub returns-in-Some-clause-exact : goal.returns-in-Some-clause-exact
returns-in-Some-clause-exact c =
    let needs = c.in-Some.ensures.needs c.args.limit c.in-Err.ensures.opens in
    inl (refl, needs.0, needs.1, refl, refl, record { buffer = refl; length_needed = refl })

pub returns-in-Some-clause-only : goal.returns-in-Some-clause-only
returns-in-Some-clause-only c = λ version front rest links start end parts is within fits.
    absurd (c.in-Some.ensures.cut (c.in-Err.ensures.only version front rest links start end (ap Some parts) is within fits))

pub returns-in-None-clause-exact : goal.returns-in-None-clause-exact
returns-in-None-clause-exact c =
    inr (
      refl,
      λ car k. inr (
        c.in-Err.error,
        c.in-None.ensures.needs c.args.limit c.in-Err.ensures.opens car k,
        c.car_status.ensures,
        refl,
        refl,
        record { buffer = refl; length_needed = refl },
      ),
    )
