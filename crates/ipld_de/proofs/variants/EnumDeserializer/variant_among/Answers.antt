use Rattle.std.proofs.Common.{◌≡◌, false, string_bytes, refl, ap, subst, ◌∙◌}
use Rattle.ipld_de.specs.Fields.{among, strings}
use Rattle.ipld_de.proofs.FieldErrors.{are_others}
use Rattle.ipld_de.proofs.variants.EnumDeserializer.variant_among.Goals as goal

pub returns-clause-unknown : goal.returns-clause-unknown
returns-clause-unknown c =
    let names = strings c.args.names.now in
    let same : c.as_str.result.now ≡ string_bytes c.args.self.variant = c.as_str.ensures.value ∙ ap (λ v. v.0) c.variant-name.ensures in
    (refl, are_others (string_bytes c.args.self.variant) names (subst (λ name. among name names ≡ false) same c.in-None.ensures.none))
