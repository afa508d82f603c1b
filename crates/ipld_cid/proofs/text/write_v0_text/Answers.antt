use Rattle.std.proofs.Common.{refl, sym, ap, ◌∙◌}
use Rattle.std.proofs.Output.{has_written_of_eq}
use Rattle.hex.specs.Hex.{encode_lower, lower_digits}
use Rattle.hex.proofs.HexLemmas.{IsAscii-encode_with}
use Rattle.ipld_cid.specs.LinkOf.{link_of}
use Rattle.ipld_cid.proofs.Quintets.{ascii_by_test}
use Rattle.ipld_cid.proofs.Texts.{text_of_v0}
use Rattle.ipld_cid.proofs.text.write_v0_text.Goals as goal

pub as_text-requires : goal.as_text-requires
as_text-requires g c = rw c.digits_of.ensures (IsAscii-encode_with lower_digits c.as_slice.result.now (ascii_by_test lower_digits refl))

pub returns : goal.returns
returns g c =
    let digits = c.as_text.ensures ∙ c.digits_of.ensures ∙ ap encode_lower (c.as_slice.ensures ∙ c.short_bytes.ensures.whole) ∙ sym (text_of_v0 (link_of c.args.cid.now) c.requires) in
    λ plain ok. has_written_of_eq _ _ _ _ _ digits (c.write_str.ensures.writes plain ok)
