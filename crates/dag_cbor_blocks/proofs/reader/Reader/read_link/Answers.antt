use Rattle.std.proofs.Common.{inr, sym, refl, ap, ◌∙◌}
use Rattle.dag_cbor_format.specs.Errors.{link_error}
use Rattle.dag_cbor_format.specs.Reading.{after_link, rejected, step}
use Rattle.dag_cbor_blocks.specs.Position.{frames_of}
use Rattle.dag_cbor_blocks.specs.Reader.{in_stage}
use Rattle.dag_cbor_blocks.proofs.reader.Reader.read_link.Goals as goal

pub returns-in-Ok-clause-steps : goal.returns-in-Ok-clause-steps
returns-in-Ok-clause-steps c =
    let block = c.args.self.now.position.rest.now in
    let fs = frames_of c.args.self.now.position in
    (fs, ap (λ s. step (in_stage s fs) block) c.requires ∙ ap (after_link fs (link_error block)) c.in-Ok.ensures.encoded, refl)

pub returns-in-Err-clause-steps : goal.returns-in-Err-clause-steps
returns-in-Err-clause-steps c =
    let block = c.args.self.now.position.rest.now in
    let fs = frames_of c.args.self.now.position in
    let missing = c.in-Err.ensures.encoded in
    inr (ap (λ s. step (in_stage s fs) block) c.requires ∙ ap (after_link fs (link_error block)) missing.0 ∙ ap rejected (sym missing.1))
