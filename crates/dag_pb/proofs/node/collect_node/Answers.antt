use Rattle.std.proofs.Common.{◌≡◌, ◌<◌, [], length, inr, sym, ap, ◌∙◌, arith, Ok, Err}
use Rattle.std.proofs.lemmas.Bool.Decides.{nat_tests}
use Rattle.dag_pb.specs.declared.error.PbError.{PbError}
use Rattle.dag_pb.specs.declared.reader.Stage.TheVariants.{Nothing}
use Rattle.dag_pb.specs.NodeReading.{joined, read_fields}
use Rattle.dag_pb.specs.Views.{part_of, parts_of_node}
use Rattle.dag_pb.proofs.Collecting.{loop_step, loop_stops, loop_ends, loop_full, fields_read, fault_no_node, some_behind, joined_empty, node_is}
use Rattle.dag_pb.proofs.node.collect_node.Goals as goal

pub loop-rest-preserved : goal.loop-rest-preserved
loop-rest-preserved c =
    let some : 0 < length c.loop-rest.rest.now = let e = c.is_empty.ensures in let f = c.loop-rest-test.true in grind (arith, nat_tests) in
    loop_step c.loop-rest.stage c.loop-rest.rest.now (part_of c.in-Ok.part) c.in-Ok.next c.in-Ok.after.now
    (joined (parts_of_node c.loop-rest.node)) (joined (parts_of_node c.add.new.self))
    (read_fields Nothing c.args.bytes.now) some c.in-Ok.ensures.exact c.in_ok-add-in-Ok.ensures.added c.loop-rest.invariant

pub returns-in-Err-clause-exact : goal.returns-in-Err-clause-exact
returns-in-Err-clause-exact c =
    let some : 0 < length c.loop-rest.rest.now = let e = c.is_empty.ensures in let f = c.loop-rest-test.true in grind (arith, nat_tests) in
    let stopped = loop_stops c.loop-rest.stage c.loop-rest.rest.now c.in-Err.fault (joined (parts_of_node c.loop-rest.node))
    (read_fields Nothing c.args.bytes.now) some c.in-Err.ensures.exact c.loop-rest.invariant in
    inr (node_is c.args.bytes.now (Err c.in-Err.fault) stopped ∙ ap (λ (e : PbError). Err e) (sym c.in_block.ensures))

pub returns-clause-exact : goal.returns-clause-exact
returns-clause-exact c =
    let none : length c.loop-rest.rest.now ≡ 0 = let e = c.is_empty.ensures in let f = c.loop-rest-test.false in grind (arith, nat_tests) in
    let ended = loop_ends c.loop-rest.stage c.loop-rest.rest.now (joined (parts_of_node c.loop-rest.node))
    (read_fields Nothing c.args.bytes.now) none c.loop-rest.invariant in
    node_is c.args.bytes.now (Ok (parts_of_node c.loop-rest.node)) (ended ∙ ap Ok (joined_empty (parts_of_node c.loop-rest.node)))

pub returns-in_err-add-in-Ok-clause-unlinked : goal.returns-in_err-add-in-Ok-clause-unlinked
returns-in_err-add-in-Ok-clause-unlinked c = λ n is none.
    let some : 0 < length c.loop-rest.rest.now = let e = c.is_empty.ensures in let f = c.loop-rest-test.true in grind (arith, nat_tests) in
    absurd (loop_full c.loop-rest.stage c.loop-rest.rest.now c.in-Ok.part c.in-Ok.next c.in-Ok.after.now (joined (parts_of_node c.loop-rest.node)) (λ m. m.links ≡ [] → ⊥)
    (read_fields Nothing c.args.bytes.now) n some c.in-Ok.ensures.exact c.in_err-add-in-Ok.ensures.full (λ l m. some_behind (parts_of_node c.loop-rest.node).links l m.links)
    c.loop-rest.invariant (fields_read c.args.bytes.now n is) none)

pub returns-in-Err-clause-unlinked : goal.returns-in-Err-clause-unlinked
returns-in-Err-clause-unlinked c = λ n is none.
    let some : 0 < length c.loop-rest.rest.now = let e = c.is_empty.ensures in let f = c.loop-rest-test.true in grind (arith, nat_tests) in
    let stopped = loop_stops c.loop-rest.stage c.loop-rest.rest.now c.in-Err.fault (joined (parts_of_node c.loop-rest.node))
    (read_fields Nothing c.args.bytes.now) some c.in-Err.ensures.exact c.loop-rest.invariant in
    absurd (fault_no_node c.args.bytes.now n c.in-Err.fault stopped is)
