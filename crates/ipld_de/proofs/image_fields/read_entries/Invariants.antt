use Rattle.std.proofs.Common.{◌≤◌, ◌-◌, option_map}
use Rattle.ipld_de.specs.Fields.{strings, accepts_named}
use Rattle.ipld_de.proofs.ImageReading.{EntriesSoFar}
use Rattle.ipld_de.proofs.image_fields.read_entries.Given as goal

abbrev pub invariant-loop-left : goal.invariant-loop-left
invariant-loop-left g l =
    record {
      left : l.left ≤ l.fn.count;
      read : EntriesSoFar g.R.ImageReader.BeginsKey (g.R.ImageReader.Begins l.fn.levels) (accepts_named g.F.Fields.parts (strings l.fn.names)) (g.F.Fields.reads l.fn.fields (strings l.fn.names)) (g.F.Fields.reads l.fields (strings l.fn.names))
          (l.fn.count - l.left) (option_map g.R.ImageReader.key_bytes l.last) (g.R.ImageReader.contents l.fn.reader) (g.R.ImageReader.contents l.reader);
    }

abbrev pub decreases-loop-left : goal.decreases-loop-left
decreases-loop-left g l = l.left
