use Rattle.std.proofs.Common.{rules}
use Rattle.std.proofs.lemmas.Nat.{le_bytes_4}
use Rattle.ipld_car.specs.IndexNumbers.{le32}
use Rattle.ipld_car.proofs.index.read.u32_from_le.Goals as goal

pub returns : goal.returns
unfolding le32
returns c = le_bytes_4 c.args.bytes _ (search rules) (search rules) c.from_le_bytes.ensures
