use Rattle.std.proofs.Common.{map}
use Rattle.ipld_cid.specs.LinkOf.{link_of}
use Rattle.car_files.proofs.Taking.{NamesSoFar}
use Rattle.car_files.proofs.adding.add_links.Given as goal

-- the links that were taken so far, and those that are pending
abbrev pub invariant-loop : goal.invariant-loop
invariant-loop l = NamesSoFar (map link_of l.fn.links.items) (map link_of l.pending.items) l.initial.index l.index l.faults.items
