use Rattle.std.proofs.Common.{ℕ, List, inr, ap, sym, refl, subst, ◌∙◌}
use Rattle.std.specs.Str.{IsUtf8}
use Rattle.ipld_cid.specs.Bytes.{read_cid}
use Rattle.ipld_cid.specs.LinkOf.{link_of}
use Rattle.kombilad_c.proofs.pack_folder.entry_of.Goals as goal

pub returns-in-Err-from_utf8-clause-fault : goal.returns-in-Err-from_utf8-clause-fault
returns-in-Err-from_utf8-clause-fault c = inr (
  link_of c.in-Ok.cid,
  ap (read_cid 64) (sym c.as_slice.ensures) ∙ c.in-Ok.ensures.exact,
  (λ utf8. c.in-Err-from_utf8.ensures.cases.0 (subst IsUtf8 (sym c.bytes_at.ensures) utf8)),
  refl,
)
