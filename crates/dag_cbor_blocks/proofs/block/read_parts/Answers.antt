use Rattle.std.proofs.Common.{false, true, length, refl, sym, ◌∙◌}
use Rattle.std.proofs.lemmas.Result.{err_from_is_err_and}
use Rattle.dag_cbor_blocks.proofs.Switches.{is_on}
use Rattle.dag_cbor_blocks.specs.Position.{kinds_of, steps_left}
use Rattle.dag_cbor_blocks.specs.BlockReading.{ahead_of, item_ahead}
use Rattle.dag_cbor_blocks.proofs.WithinSteps.{begins, failed, counted, exceeded, bytes_left, whole}
use Rattle.dag_cbor_blocks.proofs.block.read_parts.Goals as goal

pub returns-in_err-part : goal.returns-in_err-part
returns-in_err-part g c =
    let answer = g.V.BorrowingVisitor.answer in
    let p = c.args.position.now in
    let block = p.rest.now in
    let ran = item_ahead (is_on g.row.FLOATS) p in
    let goes = begins (is_on g.row.FLOATS) answer c.args.limits block c.args.visitor.now p c.new-counter.result c.requires refl c.new-counter.ensures.all c.new-counter.ensures.bounded in
    let error = err_from_is_err_and c.from_residual.result c.from_residual.ensures.1 in
    rw (error.1, error.2) (failed (is_on g.row.FLOATS) answer c.args.limits block c.args.visitor.now (kinds_of p) true ran (length block) (length block) c.new-counter.result c.args.visitor.now goes c.in_err-part.field-0.0 c.read_item.new.position.begun c.in_err-part.ensures)

pub returns-in_err-count : goal.returns-in_err-count
returns-in_err-count g c =
    let answer = g.V.BorrowingVisitor.answer in
    let p = c.args.position.now in
    let block = p.rest.now in
    let ran = item_ahead (is_on g.row.FLOATS) p in
    let goes = begins (is_on g.row.FLOATS) answer c.args.limits block c.args.visitor.now p c.new-counter.result c.requires refl c.new-counter.ensures.all c.new-counter.ensures.bounded in
    let error = err_from_is_err_and c.from_residual-in_err-count.result c.from_residual-in_err-count.ensures.1 in
    rw (error.1, error.2) (
    exceeded (is_on g.row.FLOATS) answer c.args.limits block c.args.visitor.now (kinds_of p) true ran (length block) (length block) c.new-counter.result c.args.visitor.now goes
    c.in_ok-part.part (steps_left p) c.read_item.new.visitor c.read_item.new.position c.in_ok-part.ensures c.in_err-count.field-0.0 c.in_err-count.ensures
    )

pub loop-counter-init : goal.loop-counter-init
loop-counter-init g c =
    let answer = g.V.BorrowingVisitor.answer in
    let p = c.args.position.now in
    let block = p.rest.now in
    let ran = item_ahead (is_on g.row.FLOATS) p in
    let goes = begins (is_on g.row.FLOATS) answer c.args.limits block c.args.visitor.now p c.new-counter.result c.requires refl c.new-counter.ensures.all c.new-counter.ensures.bounded in
    counted (is_on g.row.FLOATS) answer c.args.limits block c.args.visitor.now (kinds_of p) true ran (length block) (length block) c.new-counter.result c.args.visitor.now goes
    c.in_ok-part.part (steps_left p) c.read_item.new.visitor c.read_item.new.position c.in_ok-part.ensures c.count.new.self c.in_ok-count.ensures

pub returns-in_err-part-2 : goal.returns-in_err-part-2
returns-in_err-part-2 g c =
    let answer = g.V.BorrowingVisitor.answer in
    let block = c.args.position.now.rest.now in
    let l = c.loop-counter in
    let error = err_from_is_err_and c.from_residual-in_err-part-2.result c.from_residual-in_err-part-2.ensures.1 in
    rw (error.1, error.2) (failed (is_on g.row.FLOATS) answer c.args.limits block c.args.visitor.now (kinds_of l.position) false (ahead_of (is_on g.row.FLOATS) l.position) l.position.begun (length l.position.rest.now) l.counter l.visitor l.invariant c.in_err-part-2.field-0.0 c.read_part.new.position.begun c.in_err-part-2.ensures)

pub returns-in_err-count-2 : goal.returns-in_err-count-2
returns-in_err-count-2 g c =
    let answer = g.V.BorrowingVisitor.answer in
    let block = c.args.position.now.rest.now in
    let l = c.loop-counter in
    let error = err_from_is_err_and c.from_residual-in_err-count-2.result c.from_residual-in_err-count-2.ensures.1 in
    rw (error.1, error.2) (
    exceeded (is_on g.row.FLOATS) answer c.args.limits block c.args.visitor.now (kinds_of l.position) false (ahead_of (is_on g.row.FLOATS) l.position) l.position.begun (length l.position.rest.now) l.counter l.visitor l.invariant
    c.in_ok-part-2.part (steps_left l.position) c.read_part.new.visitor c.read_part.new.position c.in_ok-part-2.ensures c.in_err-count-2.field-0.0 c.in_err-count-2.ensures
    )

pub loop-counter-preserved : goal.loop-counter-preserved
loop-counter-preserved g c =
    let answer = g.V.BorrowingVisitor.answer in
    let block = c.args.position.now.rest.now in
    let l = c.loop-counter in
    counted (is_on g.row.FLOATS) answer c.args.limits block c.args.visitor.now (kinds_of l.position) false (ahead_of (is_on g.row.FLOATS) l.position) l.position.begun (length l.position.rest.now) l.counter l.visitor l.invariant
    c.in_ok-part-2.part (steps_left l.position) c.read_part.new.visitor c.read_part.new.position c.in_ok-part-2.ensures c.count-in-loop-counter.new.self c.in_ok-count-2.ensures

pub returns-then-is_empty : goal.returns-then-is_empty
returns-then-is_empty g c =
    let answer = g.V.BorrowingVisitor.answer in
    let block = c.args.position.now.rest.now in
    let l = c.loop-counter in
    whole (is_on g.row.FLOATS) answer c.args.limits block c.args.visitor.now l.position l.counter l.visitor l.invariant (sym c.is_open.ensures ∙ c.loop-counter-test.false)
    (sym c.is_empty.ensures ∙ c.if-is_empty.true)

pub returns : goal.returns
returns g c =
    let answer = g.V.BorrowingVisitor.answer in
    let block = c.args.position.now.rest.now in
    let l = c.loop-counter in
    bytes_left (is_on g.row.FLOATS) answer c.args.limits block c.args.visitor.now l.position l.counter l.visitor l.invariant (sym c.is_open.ensures ∙ c.loop-counter-test.false)
    (sym c.is_empty.ensures ∙ c.if-is_empty.false)
