use Rattle.std.proofs.Common.{inl, inr, refl}
use Rattle.kombilad_c.proofs.pack.pack_symlink.Goals as goal

pub returns-in-Err : goal.returns-in-Err
returns-in-Err c = inr (inl (c.in-Err.error, c.in-Err.ensures.fault, c.pack_status.ensures, refl))
