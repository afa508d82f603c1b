use Rattle.std.proofs.Common.{◌≡◌, option_map, refl, ap, codes, ◌∙◌}
use Rattle.ipld_cid.specs.Bytes.{bytes_of}
use Rattle.ipld_cid.specs.LinkOf.{link_of}
use Rattle.ipld_block.specs.Codes.{codec_name_of}
use Rattle.ipld_block.specs.Texts.{usual_text}
use Rattle.ipld_show.specs.CidParts.{line, code_text, version_text}
use Rattle.ipld_show.specs.Scalars.{hex_text}
use Rattle.ipld_show.proofs.CidLines.{named, code_line, hex_line, six}
use Rattle.ipld_show.proofs.cid_parts.write_parts.Goals as goal

pub returns : goal.returns
returns g c =
    let cid = link_of c.args.cid.now in
    let text = g.W.Write.contents c.write_text.new.writer in
    let version = g.W.Write.contents c.write_version.new.writer in
    let codec = g.W.Write.contents c.write_code.new.writer in
    let mid = g.W.Write.contents c.write_code-2.new.writer in
    let hash = option_map (λ s. s.now) c.hash_name.result in
    let digest = g.W.Write.contents c.write_hex_line.new.writer in
    let bytes = g.W.Write.contents c.write_hex_line-2.new.writer in
    let code_is : c.code-code.result ≡ cid.code = c.code-code.ensures ∙ ap (λ h. h.code) c.hash.ensures in (
      hash,
      six (g.W.Write.contents c.args.writer.now) text version codec mid digest bytes
          (line (codes "cid         ") (usual_text cid)) (line (codes "version     ") (version_text cid.version)) (line (codes "codec       ") (code_text (codec_name_of cid.codec) cid.codec))
          (line (codes "hash        ") (code_text hash cid.code)) (line (codes "digest      ") (hex_text cid.digest)) (line (codes "bytes       ") (hex_text (bytes_of cid)))
          c.in_ok-write_text.ensures
          (rw c.version.ensures at c.in_ok-write_version.ensures)
          (code_line version codec (codes "codec       ") (option_map (λ s. s.now) c.codec_name.result) (codec_name_of cid.codec) c.codec-codec.result cid.codec
          (named (λ s. s.now) c.codec_name.result (codec_name_of c.codec-codec.result) c.codec_name.ensures ∙ ap codec_name_of c.codec-codec.ensures) c.codec-codec.ensures c.in_ok-write_code.ensures)
          (code_line codec mid (codes "hash        ") hash hash c.code-code.result cid.code refl code_is c.in_ok-write_code-2.ensures)
          (hex_line mid digest (codes "digest      ") c.digest.result.now cid.digest (c.digest.ensures.value ∙ ap (λ h. h.digest) c.hash-2.ensures) c.in_ok-write_hex_line.ensures)
          (hex_line digest bytes (codes "bytes       ") c.deref.result.now (bytes_of cid) (c.deref.ensures.value ∙ c.in_ok-bytes.ensures) c.in_ok-write_hex_line-2.ensures),
    )
