use Rattle.std.proofs.Common.{subst, sym}
use Rattle.std.proofs.lemmas.Str.{IsUtf8-from_ascii}
use Rattle.ipld_cid_text.specs.Text.{IsText}
use Rattle.kombilad_c.proofs.AsciiTexts.{text-ascii}
use Rattle.kombilad_c.proofs.cid.kombilad_cid_from_text.Goals as goal

pub returns-in-Ok-clause-only : goal.returns-in-Ok-clause-only
returns-in-Ok-clause-only c = λ link is. c.parse_text.ensures.only link (subst (IsText link) (sym c.in-Ok.ensures.cases.0) is)

pub returns-in-Err-clause-only : goal.returns-in-Err-clause-only
returns-in-Err-clause-only c = λ link is. absurd (c.in-Err.ensures.cases.0 (IsUtf8-from_ascii c.args.text.now (text-ascii link c.args.text.now is)))
