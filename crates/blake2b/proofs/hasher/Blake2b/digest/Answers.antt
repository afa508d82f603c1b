use Rattle.std.proofs.Common.{[]}
use Rattle.blake2b.proofs.hasher.Blake2b.digest.Goals as goal

pub returns : goal.returns
returns g c = c.finalize.ensures c.args.message.now (c.update.ensures [] c.new-hasher.ensures)
