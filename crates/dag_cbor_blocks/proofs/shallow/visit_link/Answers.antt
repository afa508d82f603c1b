use Rattle.std.proofs.Common.{◌≡◌, false, rules}
use Rattle.dag_cbor_blocks.proofs.Switches.{is_on}
use Rattle.dag_cbor_blocks.proofs.ShallowVisits.{link_visited}
use Rattle.dag_cbor_blocks.proofs.shallow.visit_link.Goals as goal

pub returns : goal.returns
returns g c = λ levels.
    let r = c.in-Ok in
    let tagged : c.args.tag ≡ 42 = search rules in
    link_visited (is_on g.row.FLOATS) g.V.Visitor.answer levels c.args.visitor.now c.visit.new.self c.args.tag c.args.bytes.now r.encoded.now r.rest.now tagged r.ensures.encoded (c.in_ok-visit.ensures false)
