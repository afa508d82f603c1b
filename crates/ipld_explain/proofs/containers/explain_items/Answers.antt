use Rattle.std.proofs.Common.{rules, arith, ◌≡◌, None, option_map, IsSome, IfSome, ap, subst}
use Rattle.ipld_tree.specs.TreeOf.{tree_of}
use Rattle.ipld_de.specs.Cursors.{left}
use Rattle.ipld_de.specs.Forms.{count_items}
use Rattle.ipld_explain.specs.Failures.{failure_of, Explains}
use Rattle.ipld_explain.proofs.Sequences.{items_new, items_next, item_fails, items_end, none_left, items_error_next, item_error}
use Rattle.ipld_explain.proofs.Taken.{item_taken, items_ended}
use Rattle.ipld_explain.proofs.containers.explain_items.Goals as goal

pub loop-index-init : goal.loop-index-init
loop-index-init g c = record { so_far = items_new g.T.Deserialize.reads g.T.Explain.fails (left c.args.items); same = λ e why. why }

pub returns-in_default-clause-why : goal.returns-in_default-clause-why
returns-in_default-clause-why g c =
    let none : c.in_ok-item.field-0 ≡ None = search rules in
    items_end g.T.Deserialize.reads g.T.Explain.fails (left c.args.items) (left c.loop-index.items) c.loop-index.index c.loop-index.invariant.so_far
    (items_ended c.in_ok-item.field-0 (left c.loop-index.items) (left c.next_item.new.items) c.in_ok-item.ensures none)

pub returns-in-Some-2-clause-why : goal.returns-in-Some-2-clause-why
returns-in-Some-2-clause-why g c =
    let reads = g.T.Deserialize.reads in
    let fails = g.T.Explain.fails in
    let t = tree_of c.in-Some.item in
    item_fails reads fails (left c.args.items) (left c.loop-index.items) (left c.next_item.new.items) t c.loop-index.index (failure_of c.in-Some-2.explanation) (failure_of c.in_ok-within_segment.field-0)
    c.loop-index.invariant.so_far
    (item_taken c.in_ok-item.field-0 (left c.loop-index.items) (left c.next_item.new.items) c.in-Some.item c.in_ok-item.ensures c.in-Some.is)
    (subst (λ o. Explains reads fails t (option_map failure_of o)) c.in-Some-2.is c.in_ok-explanation.ensures.why)
    c.in_ok-within_segment.ensures

pub returns-in-Some-2-clause-error : goal.returns-in-Some-2-clause-error
returns-in-Some-2-clause-error g c =
    let reads = g.T.Deserialize.reads in
    let error = g.T.Deserialize.read_error in
    let t = tree_of c.in-Some.item in
    item_error reads error (left c.args.items) (left c.loop-index.items) (left c.next_item.new.items) t c.in-Some-2.explanation.error c.in_ok-within_segment.field-0.error
    c.loop-index.invariant.same
    (item_taken c.in_ok-item.field-0 (left c.loop-index.items) (left c.next_item.new.items) c.in-Some.item c.in_ok-item.ensures c.in-Some.is)
    (subst (λ o. Explains reads g.T.Explain.fails t (option_map failure_of o)) c.in-Some-2.is c.in_ok-explanation.ensures.why).0
    (subst (λ o. IfSome o (λ x. error t x.error)) c.in-Some-2.is c.in_ok-explanation.ensures.error)
    (ap (λ f. f.error) c.in_ok-within_segment.ensures)

pub loop-index-preserved : goal.loop-index-preserved
loop-index-preserved g c =
    let reads = g.T.Deserialize.reads in
    let fails = g.T.Explain.fails in
    let t = tree_of c.in-Some.item in
    let none : c.in_ok-explanation.field-0 ≡ None = search rules in
    let read : IsSome (reads t) = subst (λ o. Explains reads fails t (option_map failure_of o)) none c.in_ok-explanation.ensures.why in
    record {
      so_far = items_next reads fails (left c.args.items) (left c.loop-index.items) (left c.next_item.new.items) t c.loop-index.index c.loop-index.invariant.so_far
          (item_taken c.in_ok-item.field-0 (left c.loop-index.items) (left c.next_item.new.items) c.in-Some.item c.in_ok-item.ensures c.in-Some.is) read;
      same = items_error_next reads g.T.Deserialize.read_error (left c.args.items) (left c.loop-index.items) (left c.next_item.new.items) t c.loop-index.invariant.same
          (item_taken c.in_ok-item.field-0 (left c.loop-index.items) (left c.next_item.new.items) c.in-Some.item c.in_ok-item.ensures c.in-Some.is) read;
    }

pub returns-clause-why : goal.returns-clause-why
returns-clause-why g c =
    let so_far = c.loop-index.invariant.so_far in
    let counts = so_far.counts in
    let all = c.remaining-count.ensures in
    let nothing : count_items (left c.loop-index.items) ≡ 0 = grind (arith, rules) in
    items_end g.T.Deserialize.reads g.T.Explain.fails (left c.args.items) (left c.loop-index.items) c.loop-index.index so_far (none_left (left c.loop-index.items) nothing)
