use Rattle.std.proofs.Common.{inl, inr, sym, ap, ◌∙◌}
use Rattle.std.proofs.lemmas.Result.{err_from_is_err_and}
use Rattle.dag_cbor_format.specs.Trace.{Trace}
use Rattle.dag_cbor_format.proofs.CidLaws.{cid_laws}
use Rattle.dag_cbor_blocks.proofs.Switches.{is_on}
use Rattle.dag_cbor_blocks.proofs.BlockSteps.{at_start, at_end, left_over}
use Rattle.dag_cbor_blocks.proofs.block.read_events.Goals as goal

pub returns-in_err-read_item : goal.returns-in_err-read_item
returns-in_err-read_item g c =
    let block = c.args.bytes.now in
    let begins = at_start cid_laws (is_on g.row.FLOATS) c.new-position.result block c.new-position.ensures.frames c.new-position.ensures.rest in
    let error = err_from_is_err_and c.from_residual.result c.from_residual.ensures.1 in
    rw (error.1, error.2) (
    elim c.in_err-read_item.ensures [
      | inl none ↦ inl none
      | inr e ↦ inr (ap (λ (x : Trace). x.error) begins ∙ e.same_error)
    ]
    )

pub loop-position-init : goal.loop-position-init
loop-position-init g c =
    let block = c.args.bytes.now in
    let begins = at_start cid_laws (is_on g.row.FLOATS) c.new-position.result block c.new-position.ensures.frames c.new-position.ensures.rest in (
      c.in_ok-read_item.ensures.same_error ∙ sym (ap (λ (x : Trace). x.error) begins),
      c.in_ok-read_item.ensures.same_answer ∙ sym (ap (λ (x : Trace). g.V.BorrowingVisitor.answer c.args.visitor.now x.events) begins),
    )

pub returns-then-not-is_empty : goal.returns-then-not-is_empty
returns-then-not-is_empty g c =
    inr (
    sym c.loop-position.invariant.0
    ∙ ap (λ (x : Trace). x.error)
    (left_over cid_laws (is_on g.row.FLOATS) c.loop-position.position (sym c.is_open.ensures ∙ c.loop-position-test.false) (sym c.is_empty.ensures ∙ c.if-not-is_empty.true))
    )

pub returns : goal.returns
returns g c =
    let ends = at_end cid_laws (is_on g.row.FLOATS) c.loop-position.position (sym c.is_open.ensures ∙ c.loop-position-test.false) (sym c.is_empty.ensures ∙ c.if-not-is_empty.false) in (
      sym c.loop-position.invariant.0 ∙ ap (λ (x : Trace). x.error) ends,
      sym (ap (λ (x : Trace). g.V.BorrowingVisitor.answer c.loop-position.visitor x.events) ends) ∙ c.loop-position.invariant.1,
    )
