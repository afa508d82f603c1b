use Rattle.std.proofs.Common.{inl, ap, sym, ◌∙◌}
use Rattle.std.specs.Prelude.{map}
use Rattle.unixfs_build.specs.Views.{entry_of}
use Rattle.kombilad_c.specs.Pack.{attributes_in, ReadsFolder}
use Rattle.kombilad_c.proofs.SamePacking.{known, same_folder}
use Rattle.kombilad_c.proofs.pack_folder.kombilad_pack_folder.Goals as goal

pub returns-in-Ok : goal.returns-in-Ok
returns-in-Ok c =
    let reads : ReadsFolder c.in-Some.version (attributes_in c.args.attributes.now) c.args.sharded_above c.args.names.now c.args.rows.now c.pack_entries.result
    c.args.packing.now.place.held c.pack_entries.new.packing.place.held (record { before = c.args.place.now; after = c.pack_entries.new.place }) = inl (
      map entry_of c.in-Ok.entries.items,
      c.in-Ok.ensures.read,
      same_folder c.in-Some.version _ _ c.args.sharded_above _ _ _ _ _ _ _ _ c.attributes_of.ensures (ap (map entry_of) c.deref.ensures.value) c.in-Ok.ensures.same_place c.pack_entries.ensures,
    ) in
    known _ _ _ c.in-Some.version (sym c.in-Some.is ∙ c.version_of.ensures) reads
