use Rattle.std.proofs.Common.{inl, refl, subst, sym, ap, ◌∙◌}
use Rattle.std.specs.Prelude.{map}
use Rattle.std.proofs.lemmas.Simd.{map-map}
use Rattle.dag_cbor_blocks.specs.LinkPositions.{position_of}
use Rattle.kombilad_c.specs.Block.{span_of}
use Rattle.kombilad_c.specs.Fill.{Fills}
use Rattle.kombilad_c.proofs.positions.kombilad_link_positions.Goals as goal

pub returns-in-Ok : goal.returns-in-Ok
returns-in-Ok c =
    let exact = c.in-Ok.ensures.exact in
    let spans = ap (map (λ position. span_of (position_of position))) c.deref.ensures.value ∙ sym (map-map span_of position_of c.in-Ok.found.items) in
    inl (record { within = exact.1; same = refl }, map position_of c.in-Ok.found.items, exact.0, subst (λ content. Fills content c.fill_positions.result c.args.positions.now c.fill_positions.new.buffer c.fill_positions.new.needed) spans c.fill_positions.ensures)
