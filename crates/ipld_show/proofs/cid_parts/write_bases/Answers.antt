use Rattle.std.proofs.Common.{◌++◌, refl}
use Rattle.ipld_show.proofs.CidLines.{six}
use Rattle.ipld_show.proofs.cid_parts.write_bases.Goals as goal

pub returns : goal.returns
returns g c =
    let a = c.in_ok-write_in_base.ensures in
    let b = c.in_ok-write_in_base-2.ensures in
    let d = c.in_ok-write_in_base-3.ensures in
    let e = c.in_ok-write_in_base-4.ensures in
    let f = c.in_ok-write_in_base-5.ensures in
    let h = c.in_ok-write_in_base-6.ensures in (
      a.0 ++ (b.0 ++ (d.0 ++ (e.0 ++ (f.0 ++ h.0)))),
      record {
        base16 = a.0;
        base32 = b.0;
        base32upper = d.0;
        base36 = e.0;
        base58 = f.0;
        base64url = h.0;
        is_base16 = a.1;
        is_base32 = b.1;
        is_base32upper = d.1;
        is_base36 = e.1;
        is_base58 = f.1;
        is_base64url = h.1;
        all = refl;
      },
      six (g.W.Write.contents c.args.writer.now) (g.W.Write.contents c.write_in_base.new.writer) (g.W.Write.contents c.write_in_base-2.new.writer) (g.W.Write.contents c.write_in_base-3.new.writer)
          (g.W.Write.contents c.write_in_base-4.new.writer) (g.W.Write.contents c.write_in_base-5.new.writer) (g.W.Write.contents c.write_in_base-6.new.writer) a.0 b.0 d.0 e.0 f.0 h.0 a.2 b.2 d.2 e.2 f.2 h.2,
    )
