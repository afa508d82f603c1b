use Rattle.std.proofs.Common.{Err, ap, sym, ◌∙◌, rules}
use Rattle.ipld_links_run.specs.TokenLine.{token_of_line}
use Rattle.ipld_links_run.proofs.TokenLinesLemmas.{progress_pushed, progress_bad, progress_end, means_none}
use Rattle.ipld_links_run.proofs.token_lines.read_tokens.Goals as goal

pub returns-then-not-branch-clause-tokens : goal.returns-then-not-branch-clause-tokens
returns-then-not-branch-clause-tokens g c =
    progress_end _ _ _ _ _ _ _ c.loop-number.invariant c.in_ok-read_line.ensures (search rules)

pub returns-in-Err-NotUnderstood-clause-tokens : goal.returns-in-Err-NotUnderstood-clause-tokens
returns-in-Err-NotUnderstood-clause-tokens g c =
    let error = c.in-Err-NotUnderstood in
    let none = means_none _ c.parse_token.result (error.is ∙ ap Err error.field-0-is) c.parse_token.ensures in
    progress_bad _ _ _ _ _ _ _ c.loop-number.invariant c.in_ok-read_line.ensures (search rules) (ap token_of_line (sym c.deref.ensures.value) ∙ none)

pub loop-number-preserved : goal.loop-number-preserved
loop-number-preserved g c =
    progress_pushed _ _ _ c.loop-number.tokens.items _ c.in-Ok.token _ _ _ c.loop-number.invariant c.in_ok-read_line.ensures (search rules)
    (ap token_of_line (sym c.deref.ensures.value) ∙ c.in-Ok.ensures) c.in_ok-push-in-Ok.ensures.items
