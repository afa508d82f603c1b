use Rattle.std.proofs.Common.{◌≡◌, ◌<◌, ◌+◌, ℕ, List, [], ◌∷◌, ◌++◌, length, inr, refl, sym, ap, subst, ◌∙◌, arith, Ok, Err, append_assoc, length-append}
use Rattle.std.proofs.lemmas.Bool.Decides.{nat_tests}
use Rattle.std.proofs.lemmas.List.{append-nil}
use Rattle.dag_pb.specs.declared.error.PbError.{PbError}
use Rattle.dag_pb.specs.declared.reader.Stage.TheVariants.{Nothing}
use Rattle.dag_pb.specs.NodeReading.{joined, read_fields}
use Rattle.dag_pb.specs.Spans.{FieldIsAt, FieldsAreAt}
use Rattle.dag_pb.specs.Views.{part_of}
use Rattle.dag_pb.proofs.Collecting.{loop_step, loop_stops, loop_ends, loop_full, fields_read, fault_no_node, some_behind, joined_empty, node_is}
use Rattle.dag_pb.proofs.Places.{node_of, spanned, spans_short, field_is, fields_more, are_more, joined_first, joined_last, node_stands}
use Rattle.dag_pb.proofs.spans.collect_spans.Goals as goal

pub loop-rest-init : goal.loop-rest-init
loop-rest-init c = record {
  fields = [];
  front = [];
  parts = refl;
  are_at = refl;
  are = record { links = c.new.ensures.items; content = refl };
  read = joined_first (read_fields Nothing c.args.bytes.now);
}

pub loop-rest-preserved : goal.loop-rest-preserved
loop-rest-preserved c =
    let some : 0 < length c.loop-rest.rest.now = let e = c.is_empty.ensures in let f = c.loop-rest-test.true in grind (arith, nat_tests) in
    let before = c.loop-rest.invariant in
    let size = length c.args.bytes.now in
    let behind = length c.in-Ok.after.now in
    let all : length before.front + length c.loop-rest.rest.now ≡ size = sym (ap length before.parts ∙ length-append before.front c.loop-rest.rest.now) in
    let added = c.in_ok-add-in-Ok.ensures.added in
    let here = field_is size (length before.front) c.in-Ok.part c.loop-rest.rest.now c.in-Ok.after.now all (spans_short size behind c.in-Ok.part c.loop-rest.spans c.add.new.self added) c.in-Ok.ensures.places in
    let fields = before.fields ++ spanned size behind c.in-Ok.part ∷ [] in
    record {
      fields = fields;
      front = before.front ++ here.0;
      parts = before.parts ∙ ap (λ (x : List ℕ). before.front ++ x) here.2 ∙ sym (append_assoc before.front here.0 c.in-Ok.after.now);
      are_at = fields_more 0 before.fields before.front (spanned size behind c.in-Ok.part) here.0 before.are_at
          (subst (λ (n : ℕ). FieldIsAt n (spanned size behind c.in-Ok.part) here.0) (omega arith) here.1);
      are = are_more size behind before.fields c.in-Ok.part c.loop-rest.spans c.add.new.self before.are added;
      read = loop_step c.loop-rest.stage c.loop-rest.rest.now (part_of c.in-Ok.part) c.in-Ok.next c.in-Ok.after.now (joined (node_of before.fields)) (joined (node_of fields))
          (read_fields Nothing c.args.bytes.now) some c.in-Ok.ensures.exact (joined_last size behind c.in-Ok.part before.fields) before.read;
    }

pub returns-in-Err-clause-exact : goal.returns-in-Err-clause-exact
returns-in-Err-clause-exact c =
    let some : 0 < length c.loop-rest.rest.now = let e = c.is_empty.ensures in let f = c.loop-rest-test.true in grind (arith, nat_tests) in
    let before = c.loop-rest.invariant in
    let stopped = loop_stops c.loop-rest.stage c.loop-rest.rest.now c.in-Err.fault (joined (node_of before.fields))
    (read_fields Nothing c.args.bytes.now) some c.in-Err.ensures.exact before.read in
    inr (node_is c.args.bytes.now (Err c.in-Err.fault) stopped ∙ ap (λ (e : PbError). Err e) (sym c.in_block.ensures))

-- nothing is left
none_left : (front rest : List ℕ) → length rest ≡ 0 → front ++ rest ≡ front
none_left front [] none = append-nil front
none_left front (b ∷ rest) none = absurd (omega arith)

pub returns-clause-exact : goal.returns-clause-exact
returns-clause-exact c =
    let none : length c.loop-rest.rest.now ≡ 0 = let e = c.is_empty.ensures in let f = c.loop-rest-test.false in grind (arith, nat_tests) in
    let before = c.loop-rest.invariant in
    let ended = loop_ends c.loop-rest.stage c.loop-rest.rest.now (joined (node_of before.fields)) (read_fields Nothing c.args.bytes.now) none before.read in
    let node = node_of before.fields in
    let whole : FieldsAreAt 0 before.fields c.args.bytes.now = subst (FieldsAreAt 0 before.fields) (sym (before.parts ∙ none_left before.front c.loop-rest.rest.now none)) before.are_at in (
      (node, node_is c.args.bytes.now (Ok node) (ended ∙ ap Ok (joined_empty node)), node_stands before.fields c.args.bytes.now c.loop-rest.spans whole before.are),
      record { fields = before.fields; are_at = whole; links = before.are.links; content = before.are.content },
    )

pub returns-in_err-add-in-Ok-clause-unlinked : goal.returns-in_err-add-in-Ok-clause-unlinked
returns-in_err-add-in-Ok-clause-unlinked c = λ n is none.
    let some : 0 < length c.loop-rest.rest.now = let e = c.is_empty.ensures in let f = c.loop-rest-test.true in grind (arith, nat_tests) in
    let before = c.loop-rest.invariant in
    absurd (loop_full c.loop-rest.stage c.loop-rest.rest.now c.in-Ok.part c.in-Ok.next c.in-Ok.after.now (joined (node_of before.fields)) (λ m. m.links ≡ [] → ⊥)
    (read_fields Nothing c.args.bytes.now) n some c.in-Ok.ensures.exact c.in_err-add-in-Ok.ensures.full (λ l m. some_behind (node_of before.fields).links l m.links)
    before.read (fields_read c.args.bytes.now n is) none)

pub returns-in-Err-clause-unlinked : goal.returns-in-Err-clause-unlinked
returns-in-Err-clause-unlinked c = λ n is none.
    let some : 0 < length c.loop-rest.rest.now = let e = c.is_empty.ensures in let f = c.loop-rest-test.true in grind (arith, nat_tests) in
    let before = c.loop-rest.invariant in
    let stopped = loop_stops c.loop-rest.stage c.loop-rest.rest.now c.in-Err.fault (joined (node_of before.fields))
    (read_fields Nothing c.args.bytes.now) some c.in-Err.ensures.exact before.read in
    absurd (fault_no_node c.args.bytes.now n c.in-Err.fault stopped is)
