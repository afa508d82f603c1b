use Rattle.std.proofs.Common.{◌≡◌, refl, sym, ap, inr, rules, ◌∙◌}
use Rattle.kombilad_c.specs.CidRecord.{record_of}
use Rattle.kombilad_c.specs.Status.{text_status}
use Rattle.kombilad_c.proofs.cid.parse_text.Goals as goal
use Rattle.kombilad_c.proofs.cid.parse_text.Goals.{in-InvalidLetter, in_default}

pub returns-in-Ok-clause-only : goal.returns-in-Ok-clause-only
returns-in-Ok-clause-only c = λ link is. (refl, c.of.ensures ∙ ap record_of (c.in-Ok.ensures.only link is))

pub returns-after-error-clause-only : goal.returns-after-error-clause-only
returns-after-error-clause-only c = λ link is. absurd (c.in-Err.ensures.only link is)

pub returns-after-error-clause-read : goal.returns-after-error-clause-read
returns-after-error-clause-read c =
    let same_error : c.match-error.error ≡ c.in-Err.error = elim c.match-error.branch [
      | in-InvalidLetter w ↦ w.error-is ∙ sym w.in-InvalidLetter.is
      | in_default w ↦ w.error-is
    ] in
    inr (record {
      utf8 = c.utf8.text;
      error = c.in-Err.error;
      why = c.in-Err.ensures.error;
      failed = c.text_status.ensures ∙ ap text_status same_error;
      same = refl;
      named_place = search rules;
    })
