use Rattle.std.proofs.Common.{◌≡◌, map}
use Rattle.ipld_cid.specs.LinkOf.{link_of}
use Rattle.car_files.proofs.Indexing.{puts_all, puts_once}
use Rattle.car_files.proofs.index.MissingBlocks.missing.Goals as goal

pub returns-clause-once : goal.returns-clause-once
returns-clause-once c =
    let all : map link_of c.loop-cid.cids.items ≡ c.args.self.now.missing =
    puts_all (map link_of c.loop-cid.cids.items) _ c.loop-cid.cid-iterator c.in-None.ensures.steps.0 c.loop-cid.invariant in
    puts_once (map link_of c.loop-cid.cids.items) c.self.inside.came.entries c.args.self.now c.self.view_is c.iter-cid-items.ensures.unique all

pub returns-clause-exactly : goal.returns-clause-exactly
returns-clause-exactly c =
    puts_all (map link_of c.loop-cid.cids.items) _ c.loop-cid.cid-iterator c.in-None.ensures.steps.0 c.loop-cid.invariant
