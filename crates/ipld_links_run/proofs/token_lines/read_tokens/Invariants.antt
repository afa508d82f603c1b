use Rattle.std.specs.Prelude.{map}
use Rattle.ipld_links_run.specs.OwnedToken.{token_of}
use Rattle.ipld_links_run.proofs.TokenLinesLemmas.{Progress}
use Rattle.ipld_links_run.proofs.token_lines.read_tokens.Given as goal

-- each line so far meant a token
abbrev pub invariant-loop-number : goal.invariant-loop-number
invariant-loop-number g l =
    Progress (g.R.Read.remaining l.initial.reader) (g.R.Read.remaining l.reader) (map token_of l.tokens.items) l.number
