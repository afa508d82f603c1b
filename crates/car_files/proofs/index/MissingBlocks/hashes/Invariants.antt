use Rattle.car_files.proofs.Hashing.{HashesSoFar}
use Rattle.car_files.proofs.index.MissingBlocks.hashes.Given as goal

-- the hashes so far, with those of the blocks that follow
abbrev pub invariant-loop-cid : goal.invariant-loop-cid
invariant-loop-cid l = HashesSoFar l.hashes.keys l.cid-iterator l.self.came
