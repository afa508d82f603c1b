use Rattle.std.proofs.Common.{length-set, arith}
use Rattle.ipld_cid.specs.LinkOf.{link_of}
use Rattle.kombilad_c.specs.declared.cid_record.CidBytes.{CidBytes}
use Rattle.kombilad_c.specs.CidRecord.{record_of}
use Rattle.kombilad_c.proofs.Listing.{filled_next}
use Rattle.kombilad_c.proofs.car_open_part.fill_roots.Goals as goal

pub loop-at-preserved : goal.loop-at-preserved
loop-at-preserved c = record {
  few = omega (arith, c.loop-at.invariant.few, length-set {A = CidBytes});
  so_far = filled_next (λ cid. record_of (link_of cid)) c.loop-at.at c.args.cids.now c.args.buffer.now c.loop-at.buffer c.index-cids-at.result c.of.result
      c.loop-at.invariant.so_far c.index-cids-at.is c.of.ensures c.loop-at-test.true c.loop-at.invariant.few c.loop-at.auto.buffer;
}
