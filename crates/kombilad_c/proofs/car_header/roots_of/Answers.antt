use Rattle.std.proofs.Common.{inr, ap, sym, ◌∙◌, arith}
use Rattle.ipld_cid.specs.Bytes.{read_cid}
use Rattle.ipld_cid.specs.LinkOf.{link_of}
use Rattle.kombilad_c.specs.CarWriting.{IsRoot, IsNoRoot}
use Rattle.kombilad_c.proofs.RowLists.{each_pushed, fault_at}
use Rattle.kombilad_c.proofs.car_header.roots_of.Goals as goal

pub loop-index-preserved : goal.loop-index-preserved
loop-index-preserved c =
    let inv = c.loop-index.invariant in record {
      each = each_pushed IsRoot link_of c.args.rows.now c.loop-index.roots.items c.push.new.self.items c.loop-index.index _ c.in-Ok.root c.loop-index-test.true inv.each (ap (read_cid 64) (sym c.as_slice.ensures) ∙ c.in-Ok.ensures.exact) c.in-Ok-push.ensures.items;
      same_place = inv.same_place;
      within = omega (arith, c.loop-index-test.true);
    }

pub returns-in-Err-clause-fault : goal.returns-in-Err-clause-fault
returns-in-Err-clause-fault c = inr (fault_at IsRoot IsNoRoot c.args.rows.now _ c.loop-index.index _ _ c.loop-index-test.true c.loop-index.invariant.each (c.in-Err.error, ap (read_cid 64) (sym c.as_slice.ensures) ∙ c.in-Err.ensures.exact, c.cid_status.ensures))
