use Rattle.std.proofs.Common.{rules}
use Rattle.ipld_car.proofs.index.Blaming.{hash_blames}
use Rattle.ipld_car.proofs.index.read.read_hash.Goals as goal

pub returns-clause-wrong : goal.returns-clause-wrong
returns-clause-wrong g c =
    hash_blames _ c.in_ok-code.code c.in_ok-count.count _ _ _ _ c.in_ok-code.ensures.takes c.in_ok-count.ensures.takes (search rules) (search rules) c.read_buckets.ensures.wrong
