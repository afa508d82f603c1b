use Rattle.ipld_show.proofs.BlockItems.{no_cid}
use Rattle.ipld_show.proofs.cid_parts.write_cid_of_block.Goals as goal

pub returns-in-Err : goal.returns-in-Err
returns-in-Err g c = record {
  written = tt;
  rejected = no_cid c.args.codec c.args.bytes.now (g.W.Write.contents c.args.writer.now) c.in-Err.error c.from.result c.from.ensures c.in-Err.ensures.rejected;
}
