use Rattle.std.proofs.Common.{ap, codes, ◌∙◌}
use Rattle.std.proofs.lemmas.Bool.{cond-false, false_from_ne_true}
use Rattle.std.proofs.lemmas.Slice.Eq.{bytes_eq-Decides}
use Rattle.ipld_links_run.specs.TokenLine.{bool_field}
use Rattle.ipld_links_run.proofs.token_line.parse_bool.Goals as goal

pub returns-in-true : goal.returns-in-true
unfolding bool_field
returns-in-true c = ap bool_field c.in-true.is

pub returns-in-false : goal.returns-in-false
unfolding bool_field
returns-in-false c = ap bool_field c.in-false.is

pub returns-in_default : goal.returns-in_default
unfolding bool_field
returns-in_default c =
    let field = c.args.field.now in
    cond-false _ _ _ (false_from_ne_true _ (λ e. c.in_default.not-true ((bytes_eq-Decides field (codes "true")).0 e)))
    ∙ cond-false _ _ _ (false_from_ne_true _ (λ e. c.in_default.not-false ((bytes_eq-Decides field (codes "false")).0 e)))
