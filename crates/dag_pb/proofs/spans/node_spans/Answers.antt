use Rattle.dag_pb.specs.Lemmas.NodeLaws.{node_complete}
use Rattle.std.proofs.Common.{arith}
use Rattle.dag_pb.proofs.Spanning.{spans_found, spans_only, spans_places, spans_errors, spans_offset}
use Rattle.dag_pb.proofs.spans.node_spans.Goals as goal

pub returns-clause-found : goal.returns-clause-found
returns-clause-found c = spans_found c.args.bytes.now c.collect_spans.result (λ i. omega (arith, c.type_inv.bytes i)) c.collect_spans.ensures.exact

pub returns-clause-only : goal.returns-clause-only
returns-clause-only c n is = spans_only c.args.bytes.now n c.collect_spans.result is c.collect_spans.ensures.exact

pub returns-clause-places : goal.returns-clause-places
returns-clause-places c = spans_places c.args.bytes.now c.collect_spans.result c.collect_spans.ensures.exact

pub returns-clause-errors : goal.returns-clause-errors
returns-clause-errors c = spans_errors c.args.bytes.now c.collect_spans.result c.collect_spans.ensures.exact

pub returns-clause-offset : goal.returns-clause-offset
returns-clause-offset c = spans_offset c.args.bytes.now c.collect_spans.result c.collect_spans.ensures.exact

pub returns-clause-unlinked : goal.returns-clause-unlinked
returns-clause-unlinked c = λ n is none. c.collect_spans.ensures.unlinked n (node_complete c.args.bytes.now n is) none
