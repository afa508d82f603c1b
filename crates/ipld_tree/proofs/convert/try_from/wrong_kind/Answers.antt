use Rattle.std.proofs.Common.{rules}
use Rattle.ipld_tree.proofs.convert.try_from.wrong_kind.Goals as goal

pub returns : goal.returns
returns c = search rules
