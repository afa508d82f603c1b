use Rattle.std.proofs.Common.{false, true, length, inl, inr, refl, sym, ap, subst, ◌∙◌}
use Rattle.std.proofs.lemmas.Result.{err_from_is_err_and}
use Rattle.ipld_tokens.specs.Token.{atom, text, seq_end, map_end}
use Rattle.dag_cbor_format.specs.Reading.{rejected, yields, item_step_in}
use Rattle.dag_cbor_format.specs.Trace.{led, after_a_key, traced, trace_ahead}
use Rattle.dag_cbor_blocks.proofs.Switches.{is_on}
use Rattle.dag_cbor_blocks.specs.Position.{frames_of, kinds_of, steps_left}
use Rattle.dag_cbor_blocks.specs.BlockReading.{ahead_of, item_ahead, Reads}
use Rattle.dag_cbor_blocks.specs.Counting.{in_list, in_map}
use Rattle.dag_cbor_format.proofs.CidLaws.{cid_laws}
use Rattle.dag_cbor_blocks.proofs.BlockSteps.{ahead_by, reads_same, reads_after, end_taken, nothing_taken, fails_at_once, due_in}
use Rattle.dag_cbor_blocks.proofs.block.read_part.Goals as goal

pub returns-in_err-advance : goal.returns-in_err-advance
returns-in_err-advance g c =
    let p = c.args.position.now in
    let error = err_from_is_err_and c.from_residual.result c.from_residual.ensures.1 in
    rw (error.1, error.2) (
    elim c.in_err-advance.ensures.next [
      | inl (memory, frames, rest) ↦ inl memory
      | inr r ↦ inr (
          rw r.1 (
          fails_at_once (kinds_of p) false (ahead_of (is_on g.row.FLOATS) p) (length p.rest.now) (length p.rest.now) c.in_err-advance.field-0.0
          (ahead_by cid_laws (is_on g.row.FLOATS) (frames_of p) p.rest.now (rejected c.in_err-advance.field-0.0) (r.0 (is_on g.row.FLOATS))))
          )
    ]
    )

pub returns-in-Item : goal.returns-in-Item
returns-in-Item g c =
    let p = c.args.position.now in
    let q = c.advance.new.self in
    let next = rw c.in-Item.is at c.in_ok-advance.ensures.next in
    let floats = is_on g.row.FLOATS in
    let answer = g.V.BorrowingVisitor.answer in
    let step = item_step_in floats (frames_of q) q.rest.now in
    let reads = subst (λ n. Reads floats answer c.args.visitor.now (kinds_of q) true (traced n (trace_ahead floats) step) n (steps_left q) c.read_item.result c.read_item.new.visitor c.read_item.new.position)
    (ap length next.0.0) c.read_item.ensures in
    let ran = traced (length p.rest.now) (trace_ahead floats) step in
    reads_same floats answer c.args.visitor.now c.read_item.new.visitor (kinds_of p) (kinds_of q) false true (ahead_of floats p) ran
    (length p.rest.now) (steps_left p) (steps_left q) c.read_item.result c.read_item.new.position (ahead_by cid_laws floats (frames_of p) p.rest.now step (next.0.1 floats)) next.1
    (next.2.1 ∙ sym next.2.2) (λ limits values from. due_in (kinds_of p) next.2.0 next.2.1 (length p.rest.now) ran.events limits values from) reads

pub returns-in-Outside : goal.returns-in-Outside
returns-in-Outside g c =
    let p = c.args.position.now in
    let q = c.advance.new.self in
    let next = rw c.in-Outside.is at c.in_ok-advance.ensures.next in
    let floats = is_on g.row.FLOATS in
    nothing_taken floats g.V.BorrowingVisitor.answer c.args.visitor.now (kinds_of p) (ahead_of floats p) (length p.rest.now) (steps_left p) q
    (ap (λ fs. trace_ahead floats fs p.rest.now) next.0.0 ∙ ap (trace_ahead floats (frames_of q)) next.0.1) (ap length next.0.1) next.2 (next.1 c.requires)

pub returns-in_ok-visit-in-Value : goal.returns-in_ok-visit-in-Value
returns-in_ok-visit-in-Value g c =
    let p = c.args.position.now in
    let q = c.advance.new.self in
    let next = rw c.in-Value.is at c.in_ok-advance.ensures.next in
    let t = atom (text c.in-Value.key.now) in
    let n = length q.rest.now in
    reads_after (is_on g.row.FLOATS) g.V.BorrowingVisitor.answer c.args.visitor.now c.visit.new.self c.read_item-in-Value.new.visitor (kinds_of p) (kinds_of q) next.2.0 (ahead_of (is_on g.row.FLOATS) p) (item_ahead (is_on g.row.FLOATS) q) (text c.in-Value.key.now)
    (length p.rest.now) n true (steps_left p) (steps_left q) c.read_item-in-Value.result c.read_item-in-Value.new.position
    (ahead_by cid_laws (is_on g.row.FLOATS) (frames_of p) p.rest.now (yields t next.0.0 q.rest.now) (next.0.2 (is_on g.row.FLOATS))
    ∙ ap (λ tr. led (t, n, after_a_key next.0.0) tr) (ahead_by cid_laws (is_on g.row.FLOATS) next.0.0 q.rest.now (item_step_in (is_on g.row.FLOATS) (frames_of q) q.rest.now) (next.0.3 (is_on g.row.FLOATS)))
    ∙ ap (λ k. led (t, n, k) (item_ahead (is_on g.row.FLOATS) q)) next.0.1)
    next.1 next.2.1 next.2.2 (c.in_ok-visit-in-Value.ensures false) c.read_item-in-Value.ensures

pub returns-in_ok-visit-in-EndOfList : goal.returns-in_ok-visit-in-EndOfList
returns-in_ok-visit-in-EndOfList g c =
    let p = c.args.position.now in
    let q = c.advance.new.self in
    let next = rw c.in-EndOfList.is at c.in_ok-advance.ensures.next in
    end_taken (is_on g.row.FLOATS) g.V.BorrowingVisitor.answer c.args.visitor.now c.visit-in-EndOfList.new.self (kinds_of p) in_list (ahead_of (is_on g.row.FLOATS) p) (length p.rest.now) (steps_left p) q seq_end (after_a_key (frames_of q))
    (ahead_by cid_laws (is_on g.row.FLOATS) (frames_of p) p.rest.now (yields seq_end (frames_of q) q.rest.now) (next.0 (is_on g.row.FLOATS))) (c.in_ok-visit-in-EndOfList.ensures (after_a_key (frames_of q))) (λ values. refl) next.2 (next.1 c.requires)

pub returns-in_ok-visit-in-EndOfMap : goal.returns-in_ok-visit-in-EndOfMap
returns-in_ok-visit-in-EndOfMap g c =
    let p = c.args.position.now in
    let q = c.advance.new.self in
    let next = rw c.in-EndOfMap.is at c.in_ok-advance.ensures.next in
    end_taken (is_on g.row.FLOATS) g.V.BorrowingVisitor.answer c.args.visitor.now c.visit-in-EndOfMap.new.self (kinds_of p) in_map (ahead_of (is_on g.row.FLOATS) p) (length p.rest.now) (steps_left p) q map_end (after_a_key (frames_of q))
    (ahead_by cid_laws (is_on g.row.FLOATS) (frames_of p) p.rest.now (yields map_end (frames_of q) q.rest.now) (next.0 (is_on g.row.FLOATS))) (c.in_ok-visit-in-EndOfMap.ensures (after_a_key (frames_of q))) (λ values. refl) next.2 (next.1 c.requires)
