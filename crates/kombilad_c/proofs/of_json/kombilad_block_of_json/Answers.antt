use Rattle.std.proofs.Common.{inl, inr, refl, Err, ap, subst, ◌∙◌, arith}
use Rattle.dag_json.specs.declared.read_error.ReadError.{ReadError}
use Rattle.dag_json.specs.declared.read_error.ReadErrorKind.TheVariants.{Memory}
use Rattle.dag_json.specs.TapeReading.{MakesTape}
use Rattle.kombilad_c.specs.Status.{json_status}
use Rattle.kombilad_c.proofs.of_json.kombilad_block_of_json.Goals as goal

pub returns-in-Ok-clause-exact : goal.returns-in-Ok-clause-exact
returns-in-Ok-clause-exact c = inr (inr (
  record {
    error = record { kind = Memory; offset = 0 };
    reads = inl (c.in-Ok.ensures.found.1.tree.utf8, inl refl);
    stops = (omega arith, inl refl);
    failed = refl;
    place = refl;
  },
  record { buffer = refl; length_needed = refl },
))

pub returns-in-Err-Text-clause-only : goal.returns-in-Err-Text-clause-only
returns-in-Err-Text-clause-only c = λ t is. inr (inr (
    c.json_status.ensures ∙ ap (λ (error : ReadError). json_status error.kind) c.in-Err-Text.error-is
    ∙ ap json_status (subst (λ error. MakesTape t (Err error)) c.in-Err-Text.field-0-is (c.in-Err-Text.ensures.only t is))
    ))

pub returns-clause-only : goal.returns-clause-only
returns-clause-only c = λ t is. inr (inl (subst (λ error. MakesTape t (Err error)) c.in-Err-TooLong.field-0-is (c.in-Err-TooLong.ensures.only t is), refl))
