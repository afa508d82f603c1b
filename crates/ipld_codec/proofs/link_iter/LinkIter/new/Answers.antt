use Rattle.std.proofs.Common.{rules}
use Rattle.ipld_codec.proofs.link_iter.LinkIter.new.Goals as goal

pub returns : goal.returns
returns c = search rules
