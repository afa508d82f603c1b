use Rattle.ipld_tree.specs.Tree.{text}
use Rattle.ipld_ser.specs.ImageWriter.{written_at}
use Rattle.ipld_ser.proofs.Appending.{appends_both}
use Rattle.ipld_ser.proofs.image_writer.write_entry.Goals as goal

pub returns : goal.returns
returns g c =
    appends_both (g.W.ImageWriter.written (text c.args.entry.now.0.now)) (written_at g.W.ImageWriter.written (g.F.SerializeFields.fields c.args.fields.now) c.args.entry.now.1) _ _ _
    c.in_ok-write_str.ensures c.in_ok-write_value.ensures
