use Rattle.std.proofs.Common.{rules}
use Rattle.dag_cbor_blocks.proofs.tokens.CborTokensTokenSource.has_failed.Goals as goal

pub returns : goal.returns
returns c = search rules
