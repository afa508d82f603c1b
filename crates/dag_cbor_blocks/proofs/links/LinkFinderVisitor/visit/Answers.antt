use Rattle.std.proofs.Common.{◌++◌, map, sym, ap}
use Rattle.ipld_cid.specs.LinkOf.{link_of}
use Rattle.dag_cbor_blocks.proofs.Visits.{no_links}
use Rattle.dag_cbor_blocks.proofs.links.LinkFinderVisitor.visit.Goals as goal

pub returns-in_default : goal.returns-in_default
returns-in_default c = λ key more.
    ap (λ ls. map link_of c.args.self.now.links.items ++ ls) (sym (no_links c.args.event.now c.in_default.not-Link c.args._left key more))
