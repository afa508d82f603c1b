use Rattle.std.proofs.Common.{◌≡◌, ◌<◌, ◌^◌, ℕ, List, length, inl, ap, sym, ◌∙◌, ◌++◌, ◌+◌, arith}
use Rattle.ipld_cid.specs.Bytes.{bytes_of}
use Rattle.ipld_cid.specs.LinkOf.{link_of}
use Rattle.ipld_cid.specs.Varint.{varint_of}
use Rattle.kombilad_c.specs.CidRecord.{bytes_in}
use Rattle.kombilad_c.proofs.CarWritten.{bytes_in_record, is_front}
use Rattle.kombilad_c.proofs.car_section.write_front.Goals as goal

pub returns : goal.returns
returns c =
    let link = link_of c.args.cid.now in
    let total : c.in-Some.total ≡ c.args.len + length (bytes_of link) = omega (arith, c.in-Some.ensures, c.encoded_len.ensures.len) in
    let fits : c.args.len + length (bytes_of link) < 2 ^ 64 = omega (arith, c.in-Some.ensures, c.encoded_len.ensures.len) in
    let varint = c.push_varint.ensures.written ∙ ap (λ (xs : List ℕ). xs ++ varint_of c.in-Some.total) c.new-content.ensures ∙ ap varint_of total in
    let cid = c.as_slice.ensures ∙ ap bytes_in c.of.ensures ∙ bytes_in_record link in
    let content = c.as_slice-2.ensures ∙ c.extend.ensures ∙ ap (λ (xs : List ℕ). xs ++ c.as_slice.result.now) varint
    ∙ ap (λ (xs : List ℕ). varint_of (c.args.len + length (bytes_of link)) ++ xs) cid in
    inl (c.as_slice-2.result.now, is_front c.args.cid.now c.args.len c.as_slice-2.result.now fits content, c.fill.ensures)
