use Rattle.std.proofs.Common.{ap, sym, subst, ◌∙◌, arith}
use Rattle.std.proofs.lemmas.Option.{MatchOption-at_none, MatchOption-at_some}
use Rattle.std.proofs.lemmas.Str.Pattern.{split_once_first}
use Rattle.ipld_links_run.specs.TokenLine.{token_of_line}
use Rattle.ipld_links_run.specs.OwnedToken.{token_of}
use Rattle.ipld_links_run.specs.Said.{Parses}
use Rattle.ipld_links_run.proofs.AsciiLemmas.{not_utf8}
use Rattle.ipld_links_run.proofs.TokenLineLemmas.{no_blank, at_blank}
use Rattle.ipld_links_run.proofs.token_line.parse_token.Goals as goal

pub returns-in_default : goal.returns-in_default
returns-in_default c = not_utf8 c.args.line.now c.in_default.ensures.cases.0

pub returns-in-None : goal.returns-in-None
returns-in-None c =
    let line = c.in-Ok.line.now in
    let none = MatchOption-at_none _ _ c.in-None.is (split_once_first 32 line c.split_once.result c.split_once.ensures.cases (omega arith)) in
    subst (λ o. Parses token_of o c.plain_token.result) (sym (ap token_of_line (sym c.in-Ok.ensures.cases.0) ∙ no_blank line none)) c.plain_token.ensures

pub returns-in-Some : goal.returns-in-Some
returns-in-Some c =
    let line = c.in-Ok.line.now in
    let cut = MatchOption-at_some _ _ _ c.in-Some.is (split_once_first 32 line c.split_once.result c.split_once.ensures.cases (omega arith)) in
    subst (λ o. Parses token_of o c.field_token.result) (sym (ap token_of_line (sym c.in-Ok.ensures.cases.0) ∙ at_blank line _ _ cut.0 cut.1 cut.2)) c.field_token.ensures
