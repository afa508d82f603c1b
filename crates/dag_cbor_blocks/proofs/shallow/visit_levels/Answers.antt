use Rattle.std.proofs.Common.{sym, ◌∙◌}
use Rattle.dag_cbor_blocks.proofs.Switches.{is_on}
use Rattle.dag_cbor_blocks.proofs.ShallowVisits.{block_visited}
use Rattle.dag_cbor_blocks.proofs.shallow.visit_levels.Goals as goal

pub returns-then-is_empty : goal.returns-then-is_empty
returns-then-is_empty g c =
    block_visited (is_on g.row.FLOATS) g.V.Visitor.answer c.args.levels c.args.visitor.now c.visit_item.new.visitor c.args.bytes.now c.in_ok-rest.rest.now (sym c.is_empty.ensures ∙ c.if-is_empty.true) c.in_ok-rest.ensures
