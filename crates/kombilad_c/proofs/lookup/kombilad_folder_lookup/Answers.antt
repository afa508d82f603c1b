use Rattle.kombilad_c.proofs.lookup.kombilad_folder_lookup.Goals as goal

pub returns-in-Ok : goal.returns-in-Ok
returns-in-Ok c = rw c.in-Ok.ensures.exact c.look_for.ensures
