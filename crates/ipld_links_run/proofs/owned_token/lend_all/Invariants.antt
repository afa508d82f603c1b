use Rattle.std.proofs.Common.{◌≡◌, map, take}
use Rattle.ipld_tokens.specs.Token.{erase}
use Rattle.ipld_links_run.specs.OwnedToken.{token_of}
use Rattle.ipld_links_run.proofs.owned_token.lend_all.Given as goal

-- the tokens so far are lent
abbrev pub invariant-loop-token : goal.invariant-loop-token
invariant-loop-token l = map erase l.lent.items ≡ map token_of (take l.token-index l.tokens)
