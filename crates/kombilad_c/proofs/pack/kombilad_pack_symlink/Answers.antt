use Rattle.std.proofs.Common.{inl, sym, ◌∙◌}
use Rattle.std.specs.Str.{IsUtf8}
use Rattle.kombilad_c.specs.Pack.{attributes_in, PacksSymlink}
use Rattle.kombilad_c.proofs.SamePacking.{known, same_symlink}
use Rattle.kombilad_c.proofs.pack.kombilad_pack_symlink.Goals as goal

pub returns-in-Some-Ok : goal.returns-in-Some-Ok
returns-in-Some-Ok c =
    let utf8 = c.in-Some-Ok.ensures'.cases in
    let packs : IsUtf8 c.args.target.now × PacksSymlink c.in-Some-Ok.version (attributes_in c.args.attributes.now) c.args.target.now c.pack_symlink.result
    c.args.packing.now.place.held c.pack_symlink.new.packing.place.held =
    (utf8.1, same_symlink c.in-Some-Ok.version _ _ _ _ _ _ _ c.attributes_of.ensures utf8.0 c.pack_symlink.ensures) in
    known _ _ _ c.in-Some-Ok.version (sym c.in-Some-Ok.is-0 ∙ c.version_of.ensures) (inl packs)
