use Rattle.std.proofs.Common.{◌≡◌, ◌<◌, List, [], length, ◌++◌, inr, sym, ap, ◌∙◌, arith, Ok, Err, map, Result}
use Rattle.std.proofs.lemmas.List.{append-nil}
use Rattle.ipld_cid.specs.LinkOf.{link_of}
use Rattle.std.proofs.lemmas.Bool.Decides.{nat_tests}
use Rattle.dag_pb.specs.declared.error.PbError.{PbError}
use Rattle.dag_pb.specs.declared.reader.Stage.TheVariants.{Nothing}
use Rattle.ipld_cid.specs.Cid.{Link}
use Rattle.dag_pb.specs.declared.error.Fault.{Fault}
use Rattle.pb_wire.specs.Steps.{◌>>=◌}
use Rattle.dag_pb.specs.Node.{NodeParts}
use Rattle.dag_pb.specs.NodeReading.{hashes, read_fields}
use Rattle.dag_pb.specs.Views.{part_of}
use Rattle.dag_pb.proofs.Collecting.{loop_step, loop_stops, loop_ends, loop_full, fields_read, fault_no_links, some_behind, links_are}
use Rattle.dag_pb.proofs.node.collect_links.Goals as goal

pub loop-rest-preserved : goal.loop-rest-preserved
loop-rest-preserved c =
    let some : 0 < length c.loop-rest.rest.now = let e = c.is_empty.ensures in let f = c.loop-rest-test.true in grind (arith, nat_tests) in
    loop_step c.loop-rest.stage c.loop-rest.rest.now (part_of c.in-Ok.part) c.in-Ok.next c.in-Ok.after.now
    (λ rest. map link_of c.loop-rest.links.items ++ hashes rest) (λ rest. map link_of c.push_hash.new.links.items ++ hashes rest)
    (read_fields Nothing c.args.bytes.now >>= λ node. Ok (hashes node)) some c.in-Ok.ensures.exact c.in_ok-push_hash-in-Ok.ensures.added c.loop-rest.invariant

pub returns-in-Err-clause-exact : goal.returns-in-Err-clause-exact
returns-in-Err-clause-exact c =
    let some : 0 < length c.loop-rest.rest.now = let e = c.is_empty.ensures in let f = c.loop-rest-test.true in grind (arith, nat_tests) in
    let stopped = loop_stops c.loop-rest.stage c.loop-rest.rest.now c.in-Err.fault (λ rest. map link_of c.loop-rest.links.items ++ hashes rest)
    (read_fields Nothing c.args.bytes.now >>= λ node. Ok (hashes node)) some c.in-Err.ensures.exact c.loop-rest.invariant in
    inr (links_are c.args.bytes.now (Err c.in-Err.fault) stopped ∙ ap (λ (e : PbError). Err e) (sym c.in_block.ensures))

pub returns-clause-exact : goal.returns-clause-exact
returns-clause-exact c =
    let none : length c.loop-rest.rest.now ≡ 0 = let e = c.is_empty.ensures in let f = c.loop-rest-test.false in grind (arith, nat_tests) in
    let ended = loop_ends c.loop-rest.stage c.loop-rest.rest.now (λ rest. map link_of c.loop-rest.links.items ++ hashes rest)
    (read_fields Nothing c.args.bytes.now >>= λ node. Ok (hashes node)) none c.loop-rest.invariant in
    links_are c.args.bytes.now (Ok (map link_of c.loop-rest.links.items)) (ended ∙ ap Ok (append-nil (map link_of c.loop-rest.links.items)))

pub returns-in_err-push_hash-in-Ok-clause-unlinked : goal.returns-in_err-push_hash-in-Ok-clause-unlinked
returns-in_err-push_hash-in-Ok-clause-unlinked c = λ n is none.
    let some : 0 < length c.loop-rest.rest.now = let e = c.is_empty.ensures in let f = c.loop-rest-test.true in grind (arith, nat_tests) in
    absurd (loop_full c.loop-rest.stage c.loop-rest.rest.now c.in-Ok.part c.in-Ok.next c.in-Ok.after.now (λ rest. map link_of c.loop-rest.links.items ++ hashes rest) (λ (ls : List Link). ls ≡ [] → ⊥)
    (read_fields Nothing c.args.bytes.now >>= λ node. Ok (hashes node)) (hashes n) some c.in-Ok.ensures.exact c.in_err-push_hash-in-Ok.ensures.full
    (λ l m. some_behind (map link_of c.loop-rest.links.items) l.hash (hashes m)) c.loop-rest.invariant
    (ap (λ (r : Result NodeParts Fault). r >>= λ node. Ok (hashes node)) (fields_read c.args.bytes.now n is)) (ap (map (λ l. l.hash)) none))

pub returns-in-Err-clause-unlinked : goal.returns-in-Err-clause-unlinked
returns-in-Err-clause-unlinked c = λ n is none.
    let some : 0 < length c.loop-rest.rest.now = let e = c.is_empty.ensures in let f = c.loop-rest-test.true in grind (arith, nat_tests) in
    let stopped = loop_stops c.loop-rest.stage c.loop-rest.rest.now c.in-Err.fault (λ rest. map link_of c.loop-rest.links.items ++ hashes rest)
    (read_fields Nothing c.args.bytes.now >>= λ node. Ok (hashes node)) some c.in-Err.ensures.exact c.loop-rest.invariant in
    absurd (fault_no_links c.args.bytes.now n c.in-Err.fault stopped is)
