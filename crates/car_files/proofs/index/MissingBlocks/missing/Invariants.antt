use Rattle.std.proofs.Common.{◌≡◌, ◌++◌, map}
use Rattle.ipld_cid.specs.LinkOf.{link_of}
use Rattle.car_files.specs.Index.{missing_in}
use Rattle.car_files.proofs.index.MissingBlocks.missing.Given as goal

-- the links so far whose block hasn't come, and those that follow
abbrev pub invariant-loop-cid : goal.invariant-loop-cid
invariant-loop-cid l = map link_of l.cids.items ++ missing_in l.cid-iterator ≡ l.self.missing
