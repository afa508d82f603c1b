use Rattle.std.proofs.Common.{◌≤◌, ◌-◌}
use Rattle.ipld_de.specs.ImageReader.{BeginAllRead}
use Rattle.ipld_de.proofs.composites.read_image_items.Given as goal

abbrev pub invariant-loop-left : goal.invariant-loop-left
invariant-loop-left g l =
    record {
      left : l.left ≤ l.fn.count;
      read : BeginAllRead (g.R.ImageReader.Begins l.fn.levels) g.T.Deserialize.reads g.T.Deserialize.contents (l.fn.count - l.left) l.all.items.items
          (g.R.ImageReader.contents l.fn.reader) (g.R.ImageReader.contents l.reader);
    }

abbrev pub decreases-loop-left : goal.decreases-loop-left
decreases-loop-left g l = l.left
