use Rattle.std.proofs.Common.{rules}
use Rattle.std.proofs.lemmas.Nat.{le_bytes_8}
use Rattle.ipld_car.specs.IndexNumbers.{le64}
use Rattle.ipld_car.proofs.index.read.u64_from_le.Goals as goal

pub returns : goal.returns
unfolding le64
returns c = le_bytes_8 c.args.bytes _ (search rules) (search rules) c.from_le_bytes.ensures
