use Rattle.std.proofs.Common.{List, ℕ, inl, subst}
use Rattle.std.specs.Prelude.{map}
use Rattle.ipld_cid.specs.LinkOf.{link_of}
use Rattle.kombilad_c.specs.Lookup.{content_at, LooksUp}
use Rattle.kombilad_c.proofs.lookup.look_for.Goals as goal

pub returns-in-Ok : goal.returns-in-Ok
returns-in-Ok c = inl (
  c.in-Ok.ensures.cases.1,
  subst (λ (name : List ℕ). LooksUp (link_of c.args.folder.now) name (map (content_at c.args.bytes.now) c.args.blocks.now) c.look_up.result
      (record { before = c.args.cid.now; after = c.look_up.new.cid }) (record { before = c.args.place.now; after = c.look_up.new.place }))
      c.in-Ok.ensures.cases.0 c.look_up.ensures,
)
