use Rattle.std.proofs.Common.{rules}
use Rattle.car_files.proofs.Hashing.{hashes_more}
use Rattle.car_files.proofs.index.MissingBlocks.hashes.Goals as goal

pub loop-cid-preserved-in-Ok : goal.loop-cid-preserved-in-Ok
loop-cid-preserved-in-Ok c =
    rw (c.in-Ok.ensures.keys, c.hash.ensures) (hashes_more c.loop-cid.hashes.keys c.in-Some.cid.now c.next.new.self c.args.self.now.came (search rules))
