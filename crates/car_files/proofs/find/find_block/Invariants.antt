use Rattle.ipld_cid.specs.LinkOf.{link_of}
use Rattle.car_files.proofs.Looking.{LookedSoFar}
use Rattle.car_files.proofs.find.find_block.Given as goal

-- the blocks so far are others
abbrev pub invariant-loop : goal.invariant-loop
invariant-loop g l = LookedSoFar (g.R.Read.remaining l.initial.car.reader) (g.R.Read.remaining l.car.reader) l.initial.car l.car (link_of l.cid)
