use Rattle.std.proofs.Common.{rules, ◌≡◌, None, option_map, IsSome, subst}
use Rattle.ipld_tree.specs.TreeOf.{tree_of}
use Rattle.ipld_de.specs.Cursors.{left}
use Rattle.ipld_explain.specs.Failures.{failure_of, Explains}
use Rattle.ipld_explain.proofs.Parting.{part_fails, part_read}
use Rattle.ipld_explain.proofs.Taken.{item_taken}
use Rattle.ipld_explain.proofs.tuples.Tuple2Parts.explain_parts.Goals as goal

pub returns-in-Some-2-clause-why : goal.returns-in-Some-2-clause-why
returns-in-Some-2-clause-why g c =
    let reads = g.T.Deserialize.reads in
    let fails = g.T.Explain.fails in
    let t = tree_of c.in-Some.item in
    part_fails reads fails g.P.Parts.reads g.P.Parts.parts c.args.expected c.args.found c.args.index (left c.args.items) (left c.next_item.new.items) t
    (item_taken c.in_ok-item.field-0 (left c.args.items) (left c.next_item.new.items) c.in-Some.item c.in_ok-item.ensures c.in-Some.is)
    (failure_of c.in-Some-2.explanation) (failure_of c.in_ok-within_segment.field-0)
    (subst (λ o. Explains reads fails t (option_map failure_of o)) c.in-Some-2.is c.in_ok-explanation.ensures.why)
    c.in_ok-within_segment.ensures

pub returns-clause-why : goal.returns-clause-why
returns-clause-why g c =
    let reads = g.T.Deserialize.reads in
    let fails = g.T.Explain.fails in
    let t = tree_of c.in-Some.item in
    let none : c.in_ok-explanation.field-0 ≡ None = search rules in
    let read : IsSome (reads t) = subst (λ o. Explains reads fails t (option_map failure_of o)) none c.in_ok-explanation.ensures.why in
    part_read reads fails g.P.Parts.reads g.P.Parts.parts c.args.expected c.args.found c.args.index (left c.args.items) (left c.next_item.new.items) t
    (item_taken c.in_ok-item.field-0 (left c.args.items) (left c.next_item.new.items) c.in-Some.item c.in_ok-item.ensures c.in-Some.is)
    read c.explain_parts.result c.explain_parts.ensures.why
