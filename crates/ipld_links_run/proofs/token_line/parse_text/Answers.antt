use Rattle.std.proofs.Common.{ℕ, Vec, Global, Some, Err, string_bytes, option_and_then, ap, sym, ◌∙◌}
use Rattle.std.proofs.lemmas.Bool.{false≢true}
use Rattle.std.proofs.lemmas.Result.{err_from_is_err_and}
use Rattle.std.proofs.lemmas.Str.{IsUtf8-string_bytes}
use Rattle.ipld_links_run.specs.TokenLine.{text_field, bytes_field, if_utf8}
use Rattle.ipld_links_run.proofs.TokenLineLemmas.{passed_on, is_text, is_no_text}
use Rattle.ipld_links_run.proofs.token_line.parse_text.Goals as goal

pub returns-in_err-parse_bytes : goal.returns-in_err-parse_bytes
unfolding text_field
returns-in_err-parse_bytes c =
    let p = err_from_is_err_and c.from_residual.result c.from_residual.ensures.1 in
    passed_on (λ (b : Vec ℕ Global). b.items) (string_bytes {Z = Global}) if_utf8 (bytes_field c.args.field.now) _ c.from_residual.result c.in_err-parse_bytes.ensures (p.1 ∙ ap Err p.2)

pub returns-in-Ok : goal.returns-in-Ok
unfolding text_field
returns-in-Ok c =
    let text = c.in-Ok.text in
    let same = ap (λ v. v.items) c.in-Ok.ensures.ok in
    ap (option_and_then if_utf8) (c.in_ok-parse_bytes.ensures ∙ ap Some (sym same)) ∙ is_text (string_bytes text) (IsUtf8-string_bytes text)

pub returns : goal.returns
unfolding text_field
returns c = ap (option_and_then if_utf8) c.in_ok-parse_bytes.ensures ∙ is_no_text _ (λ utf8. false≢true (c.in-Err.ensures.succeeds utf8))
