use Rattle.std.proofs.Common.{◌-◌, arith}
use Rattle.ipld_de.proofs.ImageReading.{one_more_read}
use Rattle.ipld_de.proofs.composites.read_image_items.Goals as goal

pub loop-left-preserved : goal.loop-left-preserved
loop-left-preserved g c =
    let l = c.loop-left in
    record {
      left = omega (arith, l.invariant.left);
      read = one_more_read (g.R.ImageReader.Begins c.args.levels) g.T.Deserialize.reads g.T.Deserialize.contents (c.args.count - l.left) (c.args.count - (l.left - 1)) l.all.items.items _ c.in_ok-item.item
          (g.R.ImageReader.contents c.args.reader.now) _ (g.R.ImageReader.contents c.read_part.new.reader)
          (omega (arith, l.invariant.left, c.loop-left-test.true)) c.in_ok-push.ensures l.invariant.read c.in_ok-item.ensures.ok;
    }
