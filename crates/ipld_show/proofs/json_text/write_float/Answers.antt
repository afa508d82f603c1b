use Rattle.std.proofs.Common.{Some, ap, sym, refl, ◌∙◌}
use Rattle.std.proofs.lemmas.Bool.{true≢false}
use Rattle.std.specs.Float.{float_is_finite}
use Rattle.json.specs.Json as json
use Rattle.ipld_show.proofs.Floats.{no_nan}
use Rattle.ipld_show.proofs.json_text.write_float.Goals as goal

pub returns-in_default : goal.returns-in_default
returns-in_default c =
    (json.null, λ h. absurd (no_nan c.args.bits c.in_default.ensures h), record { before = c.null.ensures.room.0; tokens = c.in_ok-null.ensures.ok })

pub returns-then-not-is_finite : goal.returns-then-not-is_finite
returns-then-not-is_finite c = (
  json.null,
  λ h. absurd (true≢false (sym h ∙ ap float_is_finite (sym c.in-Some.ensures) ∙ sym c.is_finite.ensures.value ∙ c.if-not-is_finite.true)),
  record { before = c.null-then-not-is_finite.ensures.room.0; tokens = c.in_ok-null-2.ensures.ok },
)

pub returns : goal.returns
returns c =
    let t = c.in_ok-float.ensures.plain in (
      json.number t.0,
      λ h. (t.0, (λ k. (t.2, t.3 ∙ ap Some c.in-Some.ensures)), refl),
      record { before = c.float.ensures.room.1.0; tokens = t.1 },
    )
