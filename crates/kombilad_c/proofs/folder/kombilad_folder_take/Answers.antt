use Rattle.std.proofs.Common.{◌∙◌}
use Rattle.std.proofs.lemmas.Option.{same_Some}
use Rattle.kombilad_c.specs.declared.held.Held.TheVariants.{Folder}
use Rattle.kombilad_c.proofs.folder.kombilad_folder_take.Goals as goal

pub returns-in-Some-clause-only : goal.returns-in-Some-clause-only
returns-in-Some-clause-only c = λ w next others entries below is left visits rows names.
    c.take_held-status.ensures.only w next others entries below (c.deref_mut.ensures.value ∙ same_Some c.in-Some.held.value (Folder w) (c.in-Some.ensures.taken ∙ is)) left visits rows names
