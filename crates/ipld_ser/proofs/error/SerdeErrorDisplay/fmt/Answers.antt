use Rattle.std.proofs.Common.{◌≡◌, Bool, false, refl, sym, subst, ◌∙◌}
use Rattle.std.proofs.Output.{has_written_styled_append}
use Rattle.std.specs.Fmt.{DisplaysStyledOnOk, spec_alternate, formatter_spec}
use Rattle.ipld_ser.specs.Error.{printed}
use Rattle.ipld_ser.proofs.error.SerdeErrorDisplay.fmt.Goals as goal

pub returns-in_ok-write_str-in-Custom-clause-styled : goal.returns-in_ok-write_str-in-Custom-clause-styled
returns-in_ok-write_str-in-Custom-clause-styled g c =
    let plain : spec_alternate (formatter_spec c.args.f.now) ≡ false = sym c.alternate.ensures.value ∙ c.if-alternate.false in
    let said : DisplaysStyledOnOk g.W.Write.write_str_gives c.args.f.now c.write_str-in-Custom.result (printed false c.args.self.now) c.write_str-in-Custom.new.self =
    rw (c.in-Custom.is) (λ flush ok.
    let first = c.in_ok-write_str-in-Custom.ensures.styled flush refl in
    has_written_styled_append _ _ _ _ _ _ first (c.write_str-in-Custom.ensures.styled first.flush ok)) in
    subst (λ (b : Bool). DisplaysStyledOnOk g.W.Write.write_str_gives c.args.f.now c.write_str-in-Custom.result (printed b c.args.self.now) c.write_str-in-Custom.new.self) (sym plain) said
