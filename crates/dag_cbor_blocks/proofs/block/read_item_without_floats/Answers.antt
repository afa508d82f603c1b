use Rattle.std.proofs.Common.{◌+◌, true, length, Some, inr, refl, sym, ap, ◌∙◌, arith}
use Rattle.std.proofs.lemmas.Result.{err_from_is_err_and}
use Rattle.dag_cbor_format.specs.ItemHeader.{item_header_at}
use Rattle.dag_cbor_format.specs.Errors.{item_header_error}
use Rattle.dag_cbor_format.specs.Reading.{begun}
use Rattle.dag_cbor_format.specs.Trace.{halted, traced, trace_ahead}
use Rattle.dag_cbor_blocks.proofs.Switches.{is_on}
use Rattle.dag_cbor_blocks.specs.Position.{frames_of, kinds_of, steps_left}
use Rattle.dag_cbor_blocks.specs.BlockReading.{headed}
use Rattle.dag_cbor_blocks.specs.declared.position.Position.{Position}
use Rattle.dag_cbor_blocks.proofs.BlockSteps.{head_shorter, item_headed, item_unheaded, reads_same, fails_at_once}
use Rattle.dag_cbor_blocks.proofs.block.read_item_without_floats.Goals as goal

pub returns-in_err-major : goal.returns-in_err-major
returns-in_err-major g c =
    let p = c.args.position.now in
    let bs = p.rest.now in
    let error = err_from_is_err_and c.from_residual.result c.from_residual.ensures.1 in
    rw (error.1, error.2) (
    inr (
    fails_at_once (kinds_of p) true (traced (length bs) (trace_ahead (is_on g.row.FLOATS)) (begun (frames_of p) (item_header_error bs) (item_header_at bs))) (length bs) (length bs) c.in_err-major.field-0.0
    (ap (traced (length bs) (trace_ahead (is_on g.row.FLOATS))) (item_unheaded (frames_of p) bs c.in_err-major.ensures.0) ∙ ap (λ e. halted (Some e) (length bs)) (sym c.in_err-major.ensures.1))
    )
    )

pub returns : goal.returns
returns g c =
    let p = c.args.position.now in
    let bs = p.rest.now in
    let read = c.in_ok-major in
    let behind : Position = record p { rest = read.rest; begun = length bs } in
    let shorter = head_shorter bs read.rest.now read.major read.argument read.ensures in
    reads_same (is_on g.row.FLOATS) g.V.BorrowingVisitor.answer c.args.visitor.now c.read_content.new.visitor (kinds_of p) (kinds_of behind) true true
    (traced (length bs) (trace_ahead (is_on g.row.FLOATS)) (begun (frames_of p) (item_header_error bs) (item_header_at bs))) (headed (is_on g.row.FLOATS) read.major read.argument behind)
    (length bs) (steps_left p) (steps_left behind + 3) c.read_content.result c.read_content.new.position
    (ap (traced (length bs) (trace_ahead (is_on g.row.FLOATS))) (item_headed (frames_of p) bs read.rest.now read.major read.argument read.ensures)) (omega (arith, shorter)) refl (λ limits values from. refl) c.read_content.ensures
