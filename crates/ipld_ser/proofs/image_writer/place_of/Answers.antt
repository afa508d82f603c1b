use Rattle.std.proofs.Common.{◌≡◌, ◌∙◌, ◌+◌, sym, ap, subst, arith}
use Rattle.std.specs.Prelude.{insert}
use Rattle.ipld_ser.specs.ImageWriter.{comes_first, filed, indexed}
use Rattle.ipld_ser.proofs.Placing.{one_more_first, one_behind, none_behind, placed_at}
use Rattle.ipld_ser.proofs.image_writer.place_of.Goals as goal

pub loop-entry-preserved : goal.loop-entry-preserved
loop-entry-preserved c =
    let l = c.loop-entry in
    record {
      same = ap (λ n. n + 1) l.invariant.same;
      before = one_more_first c.args.name.now c.args.order.now l.entry-index _ l.invariant.before (sym c.key_precedes.ensures ∙ c.if-not-key_precedes.false);
    }

pub returns-then-not-key_precedes-clause-filed : goal.returns-then-not-key_precedes-clause-filed
returns-then-not-key_precedes-clause-filed c = λ index.
    let l = c.loop-entry in
    placed_at c.args.name.now index c.args.order.now l.entry-index (omega arith) l.invariant.before
    (one_behind c.args.name.now c.args.order.now l.entry-index _ (sym c.key_precedes.ensures ∙ c.if-not-key_precedes.true))
    ∙ ap (λ i. insert (indexed c.args.order.now) i (c.args.name.now, index)) (sym l.invariant.same)

pub returns-clause-filed : goal.returns-clause-filed
returns-clause-filed c = λ index.
    let l = c.loop-entry in
    placed_at c.args.name.now index c.args.order.now l.entry-index (omega arith) l.invariant.before
    (none_behind c.args.name.now c.args.order.now l.entry-index (omega arith))
    ∙ ap (λ i. insert (indexed c.args.order.now) i (c.args.name.now, index)) (sym l.invariant.same)
