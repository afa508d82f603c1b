use Rattle.std.proofs.Common.{inr, arith}
use Rattle.unixfs_build.specs.Views.{entry_of}
use Rattle.kombilad_c.specs.Pack.{IsEntry, IsNoEntry}
use Rattle.kombilad_c.proofs.RowLists.{each_pushed, fault_at}
use Rattle.kombilad_c.proofs.pack_folder.entries_of.Goals as goal

pub loop-index-preserved : goal.loop-index-preserved
loop-index-preserved c =
    let inv = c.loop-index.invariant in
    let Is = IsEntry c.args.names.now in record {
      each = each_pushed Is entry_of c.args.rows.now c.loop-index.entries.items c.push.new.self.items c.loop-index.index _ c.in-Ok.entry c.loop-index-test.true inv.each c.in-Ok.ensures.read c.in-Ok-push.ensures.items;
      same_place = inv.same_place;
      within = omega (arith, c.loop-index-test.true);
    }

pub returns-in-Err-clause-fault : goal.returns-in-Err-clause-fault
returns-in-Err-clause-fault c =
    let names = c.args.names.now in
    inr (fault_at (IsEntry names) (IsNoEntry names) c.args.rows.now _ c.loop-index.index _ _ c.loop-index-test.true c.loop-index.invariant.each c.in-Err.ensures.fault)
