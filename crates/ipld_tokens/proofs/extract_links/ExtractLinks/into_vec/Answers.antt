use Rattle.std.proofs.Common.{rules}
use Rattle.ipld_tokens.proofs.extract_links.ExtractLinks.into_vec.Goals as goal

pub returns : goal.returns
returns g c = search rules
