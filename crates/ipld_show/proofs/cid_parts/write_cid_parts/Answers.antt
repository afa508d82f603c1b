use Rattle.std.proofs.Common.{◌++◌, refl}
use Rattle.std.proofs.KnownBytes.{Appends-trans}
use Rattle.ipld_cid.specs.LinkOf.{link_of}
use Rattle.ipld_show.specs.CidParts.{part_lines}
use Rattle.ipld_show.proofs.cid_parts.write_cid_parts.Goals as goal

pub returns : goal.returns
returns g c =
    let p = c.in_ok-write_parts.ensures in
    let parts = part_lines p.0 (link_of c.args.cid.now) in
    let b = c.in_ok-write_bases.ensures in (
      parts ++ b.0,
      record { hash = p.0; bases = b.0; are_bases = b.1; all = refl },
      Appends-trans (g.W.Write.contents c.args.writer.now) (g.W.Write.contents c.write_parts.new.writer) (g.W.Write.contents c.write_bases.new.writer) parts b.0 p.1 b.2,
    )
