use Rattle.std.proofs.Common.{Some, codes, ap, sym, subst, ◌∙◌}
use Rattle.std.proofs.lemmas.Bool.{true≢false}
use Rattle.std.specs.Float.{float_is_finite}
use Rattle.std.specs.Io.KnownBytes.{Appends}
use Rattle.ipld_show.proofs.Floats.{no_nan}
use Rattle.ipld_show.proofs.scalars.write_float.Goals as goal

pub returns-in_default : goal.returns-in_default
returns-in_default g c =
    (codes "null", λ h. absurd (no_nan c.args.bits c.in_default.ensures h), c.in_ok-write_all.ensures.bytes)

pub returns-then-not-is_finite : goal.returns-then-not-is_finite
returns-then-not-is_finite g c = (
  codes "null",
  λ h. absurd (true≢false (sym h ∙ ap float_is_finite (sym c.in-Some.ensures) ∙ sym c.is_finite.ensures.value ∙ c.if-not-is_finite.true)),
  c.in_ok-write_all-2.ensures.bytes,
)

pub returns : goal.returns
returns g c = (
  c.format_finite.result.now,
  λ h. (c.format_finite.ensures.plain, c.format_finite.ensures.parses ∙ ap Some c.in-Some.ensures),
  subst (Appends (g.W.Write.contents c.args.writer.now) (g.W.Write.contents c.write_all-2.new.self)) c.as_bytes.ensures.value c.in_ok-write_all-3.ensures.bytes,
)
