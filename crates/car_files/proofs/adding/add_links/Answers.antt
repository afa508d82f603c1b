use Rattle.std.proofs.Common.{map, refl, sym, ◌∙◌}
use Rattle.ipld_cid.specs.LinkOf.{link_of}
use Rattle.car_files.proofs.Taking.{names_all, faults_all, names_more, names_some, map_last, no_cids}
use Rattle.car_files.proofs.adding.add_links.Goals as goal

pub returns-in_default-clause-added : goal.returns-in_default-clause-added
returns-in_default-clause-added c =
    names_all (map link_of c.args.links.items) (map link_of c.loop.pending.items) c.args.index.now c.loop.index c.loop.faults.items c.loop.invariant
    (no_cids c.loop.pending.items (sym c.loop.pending.ok.0 ∙ c.in_default.ensures.cases.0))

pub returns-in_default-clause-faults : goal.returns-in_default-clause-faults
returns-in_default-clause-faults c =
    faults_all (map link_of c.args.links.items) (map link_of c.loop.pending.items) c.args.index.now c.loop.index c.loop.faults.items c.loop.invariant
    (no_cids c.loop.pending.items (sym c.loop.pending.ok.0 ∙ c.in_default.ensures.cases.0))

pub returns-in-Err-clause-some : goal.returns-in-Err-clause-some
returns-in-Err-clause-some c =
    names_some (map link_of c.args.links.items) (map link_of c.loop.pending.items) c.args.index.now c.loop.index c.take_link.new.index c.loop.faults.items c.loop.invariant
    c.in-Err.ensures.kept

pub loop-preserved : goal.loop-preserved
loop-preserved c =
    names_more (map link_of c.args.links.items) (map link_of c.loop.pending.items) (map link_of c.pop.new.self.items) (map link_of c.take_link.new.pending.items) (link_of c.in-Some.link)
    c.args.index.now c.loop.index c.take_link.new.index c.loop.faults.items c.take_link.new.faults.items c.loop.invariant
    (map_last c.pop.new.self.items c.in-Some.link c.loop.pending.items c.in-Some.ensures.items) c.in-Ok.ensures.taken

pub returns-clause-some : goal.returns-clause-some
returns-clause-some c =
    names_some (map link_of c.args.links.items) (map link_of c.loop.pending.items) c.args.index.now c.loop.index c.loop.index c.loop.faults.items c.loop.invariant refl
