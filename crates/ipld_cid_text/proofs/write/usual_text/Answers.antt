use Rattle.std.proofs.Common.{sym, ◌∙◌}
use Rattle.std.specs.String.{string_bytes}
use Rattle.ipld_cid.specs.LinkOf.{link_of, valid_link}
use Rattle.ipld_cid_text.proofs.UsualTexts.{if_ok, in_base58, base58_reads, printed_reads, usual_v1}
use Rattle.ipld_cid_text.proofs.write.usual_text.Goals as goal

pub returns-in-V0-clause-exact : goal.returns-in-V0-clause-exact
returns-in-V0-clause-exact c =
    if_ok c.text_of.result _ _ (λ t h. in_base58 (link_of c.args.cid.now) (string_bytes t) (sym c.version.ensures ∙ c.in-V0.is) h) c.text_of.ensures

pub returns-in-V0-clause-round_trip : goal.returns-in-V0-clause-round_trip
returns-in-V0-clause-round_trip c =
    if_ok c.text_of.result _ _ (λ t h. base58_reads (link_of c.args.cid.now) (string_bytes t) (valid_link c.args.cid.now) (sym c.version.ensures ∙ c.in-V0.is) h) c.text_of.ensures

pub returns-in-V1-clause-exact : goal.returns-in-V1-clause-exact
returns-in-V1-clause-exact c =
    if_ok c.to_text.result _ _ (λ t h. h ∙ sym (usual_v1 (link_of c.args.cid.now) (sym c.version.ensures ∙ c.in-V1.is))) c.to_text.ensures

pub returns-in-V1-clause-round_trip : goal.returns-in-V1-clause-round_trip
returns-in-V1-clause-round_trip c =
    if_ok c.to_text.result _ _ (λ t h. printed_reads (link_of c.args.cid.now) (string_bytes t) (valid_link c.args.cid.now) (sym c.version.ensures ∙ c.in-V1.is) h) c.to_text.ensures
