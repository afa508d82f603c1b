use Rattle.std.proofs.Common.{map, not, rules, subst}
use Rattle.ipld_cid.specs.LinkOf.{link_of}
use Rattle.car_files.specs.Names.{Names}
use Rattle.car_files.proofs.Naming.{names_reversed}
use Rattle.car_files.proofs.Saying.{says_reversed}
use Rattle.car_files.proofs.missing.add_in_order.Goals as goal

pub returns-in-Ok-write_carried-clause-added : goal.returns-in-Ok-write_carried-clause-added
returns-in-Ok-write_carried-clause-added g c =
    names_reversed c.args.links.items _ _
    (subst (λ xs. Names (map link_of xs) c.args.index.now c.add_links.new.index) c.reverse.ensures.items c.in-Ok.ensures.added)

pub returns-in-Ok-write_carried-clause-complained : goal.returns-in-Ok-write_carried-clause-complained
returns-in-Ok-write_carried-clause-complained g c =
    says_reversed c.args.label.now c.args.offset c.args.links.items c.reverse.new.self.items c.in-Ok.faults.items (g.E.Write.contents c.args.errors.now)
    (g.E.Write.contents c.write_carried.new.errors) (not c.is_empty.result) c.reverse.ensures.items c.in-Ok.ensures.faults
    (rw c.deref.ensures.value at c.in-Ok-write_carried.ensures.written) (search rules)
