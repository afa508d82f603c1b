use Rattle.std.proofs.Common.{rules}
use Rattle.ipld_tokens.proofs.slice_source.SliceSourceTokenSource.has_failed.Goals as goal

pub returns : goal.returns
returns c = search rules
