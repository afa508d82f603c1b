use Rattle.std.proofs.Common.{◌≤◌, inl, refl, length, subst, sym, ap, ◌∙◌}
use Rattle.std.specs.Prelude.{map, List}
use Rattle.std.specs.List.{All}
use Rattle.dag_cbor_format.specs.Trace.{cut}
use Rattle.dag_cbor_blocks.specs.LinkPositions.{position_of}
use Rattle.dag_cbor_blocks.specs.declared.link_position.LinkPosition.{LinkPosition}
use Rattle.kombilad_c.specs.CidRecord.{record_with}
use Rattle.kombilad_c.specs.Fill.{Fills}
use Rattle.kombilad_c.proofs.LinkRecords.{cut_records}
use Rattle.kombilad_c.proofs.links.kombilad_links.Goals as goal

pub fill_links-requires : goal.fill_links-requires
fill_links-requires c =
    let cuts = cut_records c.args.block.now c.in-Ok.found.items c.in-Ok.ensures.exact.0 in
    subst (λ (ps : List LinkPosition). All (λ p. length (cut (position_of p) c.args.block.now) ≤ 87) ps) (sym c.deref.ensures.value) cuts.2.1

pub returns-in-Ok : goal.returns-in-Ok
returns-in-Ok c =
    let exact = c.in-Ok.ensures.exact in
    let cuts = cut_records c.args.block.now c.in-Ok.found.items exact.0 in
    let records = ap (map (λ p. record_with (cut (position_of p) c.args.block.now))) c.deref.ensures.value ∙ cuts.2.0 in
    inl (record { within = exact.1; same = refl }, cuts.0, cuts.1, subst (λ content. Fills content c.fill_links.result c.args.links.now c.fill_links.new.buffer c.fill_links.new.needed) records c.fill_links.ensures)
