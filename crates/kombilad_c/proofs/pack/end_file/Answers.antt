use Rattle.std.proofs.Common.{inl, inr, ap, sym, subst, refl, Option, Some, ◌∙◌}
use Rattle.std.specs.Prelude.{map}
use Rattle.unixfs_build.specs.declared.builder.FileBuilder.{FileBuilder}
use Rattle.unixfs_build.specs.Views.{block_of}
use Rattle.kombilad_c.specs.declared.packing.Packing.{Packing}
use Rattle.kombilad_c.specs.Pack.{EndsOf}
use Rattle.kombilad_c.proofs.pack.end_file.Goals as goal

pub returns-in-Err : goal.returns-in-Err
returns-in-Err c =
    let old = c.args.packing.now in
    let next : Packing = record { file = c.take.new.self; blocks = c.clear.new.self; taken = 0 } in
    let ends : EndsOf (Some c.in-Some.file) old next c.args.attributes.now c.args.chunk.now c.pack_status.result =
    inr (c.in-Err.error, c.in-Err.ensures.fault, c.pack_status.ensures, c.take.ensures.after, ap (map block_of) c.clear.ensures.items) in
    inr (
      sym c.has_waiting.ensures ∙ c.if-has_waiting.false,
      subst (λ (f : Option FileBuilder). EndsOf f old next c.args.attributes.now c.args.chunk.now c.pack_status.result) (sym c.in-Some.is ∙ c.take.ensures.value) ends,
    )
