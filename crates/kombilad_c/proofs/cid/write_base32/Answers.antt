use Rattle.std.proofs.Common.{◌≡◌, ℕ, List, ◌∷◌, Option, Some, None, inl, sym, ap, subst, ◌∙◌, arith}
use Rattle.std.specs.Prelude.{MatchOption}
use Rattle.ipld_cid.specs.Cid.{Link}
use Rattle.ipld_cid.specs.LinkOf.{link_of, valid_link}
use Rattle.ipld_cid.specs.Bytes.{bytes_of}
use Rattle.ipld_cid.specs.Base32.{base32}
use Rattle.ipld_cid.specs.Text.{text_of}
use Rattle.ipld_cid.proofs.Encodings.{read_is_encoded, one_encoding}
use Rattle.ipld_cid.proofs.Texts.{text_of_v1}
use Rattle.ipld_cid_text.specs.declared.base.Base.TheVariants.{Base32Lower}
use Rattle.ipld_cid_text.specs.Text.{IsTextIn}
use Rattle.kombilad_c.specs.Fill.{Fills, IsUntouched}
use Rattle.kombilad_c.specs.Cid.{WritesText}
use Rattle.ipld_cid_text.proofs.Base32Texts.{text_of-is}
use Rattle.kombilad_c.proofs.cid.write_base32.Goals as goal

-- what is written is a text of the CID
as_text : (o : Option ℕ) (link : Link) (content before after : List ℕ) (needed_before needed : ℕ) → IsTextIn Base32Lower link content
    → MatchOption o (IsUntouched before after needed_before needed) (λ status. Fills content status before after needed)
    → MatchOption o (IsUntouched before after needed_before needed) (λ status. WritesText Base32Lower link status (record { before = before; after = after }) (record { before = needed_before; after = needed }))
as_text None link content before after needed_before needed is h = h
as_text (Some status) link content before after needed_before needed is h = inl (content, is, h)

pub returns : goal.returns
returns c =
    let link = link_of c.args.cid.now in
    let bytes = c.args.bytes.now in
    let same : bytes ≡ bytes_of link = one_encoding 64 bytes link (read_is_encoded 64 bytes link (λ i. omega (arith, c.type_inv.bytes i)) c.requires.read) in
    let whole : 98 ∷ base32 bytes ≡ text_of link = ap (λ (b : List ℕ). 98 ∷ base32 b) same ∙ sym (text_of_v1 link c.requires.kind) in
    as_text c.fill_base32.result link (98 ∷ base32 bytes) c.args.text.now c.fill_base32.new.text c.args.needed.now c.fill_base32.new.needed
    (subst (IsTextIn Base32Lower link) (sym whole) (text_of-is link (valid_link c.args.cid.now) c.requires.kind)) c.fill_base32.ensures
