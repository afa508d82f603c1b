use Rattle.std.proofs.Common.{codes}
use Rattle.ipld_cid.specs.LinkOf.{link_of}
use Rattle.ipld_block.specs.Texts.{usual_text}
use Rattle.ipld_show.proofs.CidLines.{three}
use Rattle.ipld_show.proofs.cid_parts.write_text.Goals as goal

pub returns : goal.returns
returns g c =
    three (g.W.Write.contents c.args.writer.now) (g.W.Write.contents c.write_all.new.self) (g.W.Write.contents c.write_cid.new.writer) (g.W.Write.contents c.write_all-2.new.self)
    (codes "cid         ") (usual_text (link_of c.args.cid.now)) (codes "\n") c.in_ok-write_all.ensures.bytes c.in_ok-write_cid.ensures c.in_ok-write_all-2.ensures.bytes
