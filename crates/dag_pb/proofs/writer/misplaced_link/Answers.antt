use Rattle.std.proofs.Common.{List, ap, sym, ◌∙◌, map, arith}
use Rattle.dag_pb.specs.declared.link.PbLink.{PbLink}
use Rattle.dag_pb.specs.Views.{parts_of_link}
use Rattle.dag_pb.specs.Writing.{misplaced_link}
use Rattle.dag_pb.proofs.Written.{misplaced_here, misplaced_nowhere}
use Rattle.dag_pb.proofs.writer.misplaced_link.Goals as goal

pub loop-index-init : goal.loop-index-init
loop-index-init c = ap (λ (ls : List PbLink). misplaced_link (map parts_of_link ls)) (sym c.in-Some.ensures.cases.0)

pub returns-then-precedes : goal.returns-then-precedes
returns-then-precedes c =
    sym ((misplaced_here c.in-Some.parts.1.now c.loop-index.index c.loop-index.before.now c.index-rest-index.result _ (omega arith) c.index-rest-index.is c.loop-index.invariant).0
    (sym c.precedes.ensures ∙ c.if-precedes.true))

pub loop-index-preserved : goal.loop-index-preserved
loop-index-preserved c =
    (misplaced_here c.in-Some.parts.1.now c.loop-index.index c.loop-index.before.now c.index-rest-index.result _ (omega arith) c.index-rest-index.is c.loop-index.invariant).1
    (sym c.precedes.ensures ∙ c.if-precedes.false)

pub returns : goal.returns
returns c = sym (misplaced_nowhere c.in-Some.parts.1.now c.loop-index.index c.loop-index.before.now _ (omega arith) c.loop-index.invariant)
