use Rattle.std.proofs.Common.{rules}
use Rattle.ipld_tokens.proofs.tree_tokens.IpldTokens.new.Goals as goal

pub returns-clause-tokens : goal.returns-clause-tokens
returns-clause-tokens c = search rules

pub returns-clause-not_failed : goal.returns-clause-not_failed
returns-clause-not_failed c = search rules
