use Rattle.std.proofs.Common.{inl, inr, refl, [], subst, arith}
use Rattle.dag_cbor_format.specs.declared.error.CborError.TheVariants.{Memory}
use Rattle.dag_cbor_blocks.specs.declared.block_error.BlockErrorKind.TheVariants.{Cbor}
use Rattle.ipld_show.specs.JsonText.{IsJsonError}
use Rattle.ipld_show.specs.declared.error.ShowError.{ShowError}
use Rattle.ipld_show.proofs.BlockItems.{block_item}
use Rattle.kombilad_c.specs.Fill.{Fills}
use Rattle.kombilad_c.proofs.to_json.kombilad_block_to_json.Goals as goal

pub returns-in-Ok : goal.returns-in-Ok
returns-in-Ok c =
    let found = block_item c.args.block.now c.in_default.ensures.exact.0 in
    inl (
      found.0,
      record { valid = c.in_default.ensures.exact.0; within = c.in_default.ensures.exact.1; item = found.2 },
      c.in-Ok.text.items,
      c.in-Ok.ensures found.0 [] found.2,
      subst (λ content. Fills content c.fill.result c.args.buffer.now c.fill.new.buffer c.fill.new.needed) c.deref.ensures.value c.fill.ensures,
      refl,
    )

pub returns-in-Err-Reserved : goal.returns-in-Err-Reserved
returns-in-Err-Reserved c =
    let found = block_item c.args.block.now c.in_default.ensures.exact.0 in
    inr (inl (
      record {
        item = found.0;
        encodes = record { valid = c.in_default.ensures.exact.0; within = c.in_default.ensures.exact.1; item = found.2 };
        reserved = subst (λ (error : ShowError). IsJsonError found.0 error) c.in-Err-Reserved.field-0-is (c.in-Err-Reserved.ensures found.0 [] found.2);
        failed = refl;
      },
      record { buffer = refl; length_needed = refl },
    ))

pub returns-in-Err-to_json : goal.returns-in-Err-to_json
returns-in-Err-to_json c =
    inr (inr (
      record { kind = Cbor Memory; stops = inl (refl, omega arith); failed = refl },
      record { buffer = refl; length_needed = refl },
    ))
