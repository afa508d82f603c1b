use Rattle.std.proofs.Common.{inl, inr, refl}
use Rattle.kombilad_c.proofs.pack_folder.pack_entries.Goals as goal

pub returns-in-Err : goal.returns-in-Err
returns-in-Err c = inr (inl (c.in-Err.error, c.in-Err.ensures.fault, c.stop_pack.ensures.status, c.stop_pack.ensures.place, refl))
