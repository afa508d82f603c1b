use Rattle.std.proofs.Common.{inl, inr, refl, subst, ap, ◌∙◌}
use Rattle.kombilad_c.specs.Fill.{Fills}
use Rattle.kombilad_c.specs.Status.{encode_status}
use Rattle.kombilad_c.proofs.encode.kombilad_encode.Goals as goal

pub returns-in-Ok-clause-exact : goal.returns-in-Ok-clause-exact
returns-in-Ok-clause-exact c =
    let found = c.in-Ok.ensures.found in
    inl (
      found.0,
      found.1,
      c.in-Ok.block.items,
      found.2,
      found.3,
      subst (λ xs. Fills xs c.fill.result c.args.buffer.now c.fill.new.buffer c.fill.new.needed) c.deref.ensures.value c.fill.ensures,
      refl,
    )

pub returns-in-Ok-clause-only : goal.returns-in-Ok-clause-only
returns-in-Ok-clause-only c = λ item written is.
    inl (
      c.in-Ok.block.items,
      c.in-Ok.ensures.only item written is,
      subst (λ xs. Fills xs c.fill.result c.args.buffer.now c.fill.new.buffer c.fill.new.needed) c.deref.ensures.value c.fill.ensures,
    )

pub returns-in-Err-clause-exact : goal.returns-in-Err-clause-exact
returns-in-Err-clause-exact c =
    inr (record { error = c.in-Err.error; why = c.in-Err.ensures.exact; failed = c.encode_status.ensures; place = refl }, record { buffer = refl; length_needed = refl })

pub returns-in-Err-clause-only : goal.returns-in-Err-clause-only
returns-in-Err-clause-only c = λ item written is. inr (c.encode_status.ensures ∙ ap encode_status (c.in-Err.ensures.only item written is).0)
