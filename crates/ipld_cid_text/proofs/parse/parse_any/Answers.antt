use Rattle.std.proofs.Common.{ℕ, List, subst, inl, inr}
use Rattle.std.specs.Prelude.{MatchResult}
use Rattle.ipld_cid.specs.LinkOf.{link_of, valid_link}
use Rattle.ipld_cid_text.specs.Text.{IsText, IsTextError}
use Rattle.ipld_cid_text.specs.declared.error.TextError.TheVariants.{InvalidLength}
use Rattle.ipld_cid_text.proofs.Base32Texts.{base32_reads}
use Rattle.ipld_cid_text.proofs.Reading.{only_this, one_link, no_error}
use Rattle.ipld_cid_text.proofs.parse.parse_any.Goals as goal

pub returns-in-Ok-clause-found : goal.returns-in-Ok-clause-found
returns-in-Ok-clause-found c = base32_reads (link_of c.in-Ok.cid) c.args.text.now (valid_link c.in-Ok.cid) c.in-Ok.ensures.found

pub returns-in-Ok-clause-only : goal.returns-in-Ok-clause-only
returns-in-Ok-clause-only c = λ link is. one_link (link_of c.in-Ok.cid) link c.args.text.now (base32_reads (link_of c.in-Ok.cid) c.args.text.now (valid_link c.in-Ok.cid) c.in-Ok.ensures.found) is

pub returns-in-Ok-clause-long : goal.returns-in-Ok-clause-long
returns-in-Ok-clause-long c = λ long. absurd (
    no_error (link_of c.in-Ok.cid) c.args.text.now InvalidLength (base32_reads (link_of c.in-Ok.cid) c.args.text.now (valid_link c.in-Ok.cid) c.in-Ok.ensures.found)
    (inr (long.form, long.has_form, inl long.many)))

pub returns-in-Err-clause-only : goal.returns-in-Err-clause-only
returns-in-Err-clause-only c link is =
    only_this link_of c.args.text.now c.read_text.result
    (subst (λ (t : List ℕ). MatchResult c.read_text.result (λ cid. IsText (link_of cid) t) (λ e. IsTextError t e)) c.as_bytes.ensures.value c.read_text.ensures.why) link is
