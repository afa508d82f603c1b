use Rattle.std.proofs.Common.{true, false, IfOk, sym, subst, arith}
use Rattle.dag_cbor_blocks.specs.Within.{TakesWhole}
use Rattle.dag_cbor_blocks.proofs.ShallowVisits.{whole_result}
use Rattle.dag_cbor_blocks.proofs.shallow.visit_shallow.Goals as goal

pub returns-then-options : goal.returns-then-options
returns-then-options g c =
    let answer = g.V.Visitor.answer in
    let limits = c.args.options.now.limits in
    let r = c.visit_levels.result in
    let new = c.visit_levels.new.visitor in
    subst (λ floats. IfOk r (λ done. TakesWhole floats answer c.args.visitor.now limits c.args.bytes.now new)) (sym c.if-options.true)
    (whole_result true answer limits _ c.args.visitor.now new c.args.bytes.now r (omega arith) (omega arith) c.visit_levels.ensures)

pub returns-else-options : goal.returns-else-options
returns-else-options g c =
    let answer = g.V.Visitor.answer in
    let limits = c.args.options.now.limits in
    let r = c.visit_levels-else-options.result in
    let new = c.visit_levels-else-options.new.visitor in
    subst (λ floats. IfOk r (λ done. TakesWhole floats answer c.args.visitor.now limits c.args.bytes.now new)) (sym c.if-options.false)
    (whole_result false answer limits _ c.args.visitor.now new c.args.bytes.now r (omega arith) (omega arith) c.visit_levels-else-options.ensures)
