use Rattle.std.proofs.Common.{inl, codes, refl, subst}
use Rattle.std.specs.String.{string_bytes}
use Rattle.std.specs.Io.KnownBytes.{Appends}
use Rattle.ipld_show.specs.CidParts.{line}
use Rattle.ipld_show.proofs.CidLines.{three}
use Rattle.ipld_show.proofs.cid_parts.write_in_base.Goals as goal

pub returns-in_ok-write_all-in-Ok-3 : goal.returns-in_ok-write_all-in-Ok-3
returns-in_ok-write_all-in-Ok-3 g c =
    let text = string_bytes c.in-Ok.text in (
      line c.args.label.now text,
      inl (text, c.in-Ok.ensures.exact, refl),
      three (g.W.Write.contents c.args.writer.now) (g.W.Write.contents c.write_all.new.self) (g.W.Write.contents c.write_all-in-Ok.new.self) (g.W.Write.contents c.write_all-in-Ok-2.new.self)
          c.args.label.now text (codes "\n") c.in_ok-write_all-in-Ok.ensures.bytes
          (subst (Appends (g.W.Write.contents c.write_all.new.self) (g.W.Write.contents c.write_all-in-Ok.new.self)) c.as_bytes.ensures.value c.in_ok-write_all-in-Ok-2.ensures.bytes)
          c.in_ok-write_all-in-Ok-3.ensures.bytes,
    )
