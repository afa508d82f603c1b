use Rattle.std.proofs.Common.{inr, ap, sym, refl, ◌∙◌, arith}
use Rattle.ipld_cid.specs.Bytes.{read_cid}
use Rattle.ipld_cid.specs.LinkOf.{link_of}
use Rattle.kombilad_c.specs.CarWriting.{IsEntry, IsNoEntry}
use Rattle.kombilad_c.proofs.RowLists.{each_appended, fault_at}
use Rattle.kombilad_c.proofs.car_index.entries_of.Goals as goal

pub loop-index-preserved : goal.loop-index-preserved
loop-index-preserved c =
    let inv = c.loop-index.invariant in
    let read = ap (read_cid 64) (sym c.as_slice.ensures) ∙ c.in-Ok.ensures.exact in record {
      each = each_appended IsEntry c.args.rows.now c.loop-index.entries.items c.push.new.self.items c.loop-index.index _ _ c.loop-index-test.true inv.each (record { link = link_of c.in-Ok.cid; read = read; hash = c.hash.ensures; offset = refl }) c.in-Ok-push.ensures.items;
      same_place = inv.same_place;
      within = omega (arith, c.loop-index-test.true);
    }

pub returns-in-Err-clause-fault : goal.returns-in-Err-clause-fault
returns-in-Err-clause-fault c = inr (fault_at IsEntry IsNoEntry c.args.rows.now _ c.loop-index.index _ _ c.loop-index-test.true c.loop-index.invariant.each (c.in-Err.error, ap (read_cid 64) (sym c.as_slice.ensures) ∙ c.in-Err.ensures.exact, c.cid_status.ensures))
