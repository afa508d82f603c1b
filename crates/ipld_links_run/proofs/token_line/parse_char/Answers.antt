use Rattle.std.proofs.Common.{ℕ, Global, Err, string_bytes, option_and_then, ap, sym, ◌∙◌}
use Rattle.std.specs.Str.{chars}
use Rattle.std.proofs.lemmas.Result.{err_from_is_err_and}
use Rattle.std.proofs.lemmas.Str.{IsUtf8-string_bytes}
use Rattle.ipld_links_run.specs.TokenLine.{char_field, text_field, only_one}
use Rattle.ipld_links_run.proofs.TokenLineLemmas.{passed_on, one_char, not_one_char}
use Rattle.ipld_links_run.proofs.token_line.parse_char.Goals as goal

pub returns-in_err-text : goal.returns-in_err-text
unfolding char_field
returns-in_err-text c =
    let p = err_from_is_err_and c.from_residual.result c.from_residual.ensures.1 in
    passed_on (string_bytes {Z = Global}) (λ (x : ℕ). x) (λ text. only_one (chars text)) (text_field c.args.field.now) _ c.from_residual.result c.in_err-text.ensures (p.1 ∙ ap Err p.2)

pub returns-in-Ok : goal.returns-in-Ok
unfolding char_field
returns-in-Ok c =
    let text = c.in_ok-text.text in
    ap (option_and_then (λ t. only_one (chars t))) c.in_ok-text.ensures
    ∙ one_char (string_bytes text) c.in-Ok.character (IsUtf8-string_bytes text) (sym c.as_str.ensures.value ∙ c.in-Ok.ensures.value)

pub returns : goal.returns
unfolding char_field
returns c =
    let text = c.in_ok-text.text in
    ap (option_and_then (λ t. only_one (chars t))) c.in_ok-text.ensures
    ∙ not_one_char (string_bytes text) (IsUtf8-string_bytes text) (λ ch scalar is. c.in-Err.ensures.value ch scalar (c.as_str.ensures.value ∙ is))
