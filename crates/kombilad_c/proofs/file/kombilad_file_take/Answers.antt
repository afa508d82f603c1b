use Rattle.std.proofs.Common.{◌∙◌}
use Rattle.std.proofs.lemmas.Option.{same_Some}
use Rattle.kombilad_c.specs.declared.held.Held.TheVariants.{File}
use Rattle.kombilad_c.proofs.file.kombilad_file_take.Goals as goal

pub returns-in-Some-clause-only : goal.returns-in-Some-clause-only
returns-in-Some-clause-only c = λ w next others part is left is_block is_part fits none long.
    c.take_held-status.ensures.only w next others part (c.deref_mut.ensures.value ∙ same_Some c.in-Some.held.value (File w) (c.in-Some.ensures.taken ∙ is)) left is_block is_part fits none long
