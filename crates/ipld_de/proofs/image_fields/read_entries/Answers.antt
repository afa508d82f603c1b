use Rattle.std.proofs.Common.{◌-◌, Some, option_map, refl, arith}
use Rattle.ipld_de.specs.Fields.{strings, accepts_named}
use Rattle.ipld_de.proofs.ImageReading.{one_more_entry}
use Rattle.ipld_de.proofs.image_fields.read_entries.Goals as goal

pub loop-left-preserved : goal.loop-left-preserved
loop-left-preserved g c =
    let l = c.loop-left in
    let names = strings c.args.names.now in
    let key = g.R.ImageReader.key_bytes c.in_ok-key.key in
    record {
      left = omega (arith, l.invariant.left);
      read = one_more_entry g.R.ImageReader.BeginsKey (g.R.ImageReader.Begins c.args.levels) (accepts_named g.F.Fields.parts names) (g.F.Fields.reads c.args.fields.now names) (g.F.Fields.reads l.fields names) (g.F.Fields.reads c.read_entry.new.fields names)
          (c.args.count - l.left) (c.args.count - (l.left - 1)) (option_map g.R.ImageReader.key_bytes l.last) (Some key) key
          (g.R.ImageReader.contents c.args.reader.now) _ (g.R.ImageReader.contents c.read_entry.new.reader)
          (omega (arith, l.invariant.left, c.loop-left-test.true)) refl l.invariant.read c.in_ok-key.ensures.ok;
    }
