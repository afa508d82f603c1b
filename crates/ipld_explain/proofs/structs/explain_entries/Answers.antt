use Rattle.std.proofs.Common.{rules, arith, ◌≡◌, suc, string_bytes, Some, None, option_map, IfSome, IfNone, true, ap, sym, subst, ◌∙◌}
use Rattle.ipld_tree.specs.TreeOf.{tree_of}
use Rattle.ipld_de.specs.Cursors.{entries_left}
use Rattle.ipld_de.specs.Fields.{strings, among, RejectsAt}
use Rattle.ipld_de.specs.Fields as reading
use Rattle.ipld_de.specs.Forms.{count_members}
use Rattle.ipld_explain.specs.Failures.{failure_of}
use Rattle.ipld_explain.specs.Fields.{accepts_at, ExplainsAt}
use Rattle.ipld_explain.proofs.Naming.{fields_new, fields_next, fields_other, field_fails, field_unknown, fields_end, fields_error_next, fields_error_other, field_error, fields_error_end}
use Rattle.ipld_explain.proofs.Taken.{entry_taken, entries_ended}
use Rattle.ipld_explain.proofs.structs.explain_entries.Goals as goal

pub loop-map-init : goal.loop-map-init
loop-map-init g c = record {
  so_far = fields_new c.args.strict g.F.ExplainFields.fields (strings c.args.names.now) (entries_left c.args.map) c.requires.ascends;
  same = λ e why. why;
}

pub loop-map-smaller-in_default-position_of : goal.loop-map-smaller-in_default-position_of
loop-map-smaller-in_default-position_of g c =
    let rest = entries_left c.loop-map.map in
    let after = entries_left c.next_entry.new.map in
    let counts : count_members rest ≡ suc (count_members after) =
    ap count_members (entry_taken c.in_ok-key.field-0 rest after c.in-Some.key c.in-Some.value c.in_ok-key.ensures c.in-Some.is) in
    omega arith

pub loop-map-preserved-in_default-position_of : goal.loop-map-preserved-in_default-position_of
loop-map-preserved-in_default-position_of g c =
    let rest = entries_left c.loop-map.map in
    let after = entries_left c.next_entry.new.map in
    record {
      so_far = fields_other c.args.strict g.F.ExplainFields.fields (strings c.args.names.now) (entries_left c.args.map) rest after (string_bytes c.in-Some.key) (tree_of c.in-Some.value) c.loop-map.invariant.so_far
          (entry_taken c.in_ok-key.field-0 rest after c.in-Some.key c.in-Some.value c.in_ok-key.ensures c.in-Some.is) c.if-strict.false
          (ap (λ k. among k (strings c.args.names.now)) (sym c.as_str.ensures.value) ∙ c.in_default-position_of.ensures.none);
      same = fields_error_other c.args.strict g.F.Fields.parts (strings c.args.names.now) (entries_left c.args.map) rest after (string_bytes c.in-Some.key) (tree_of c.in-Some.value) c.loop-map.invariant.same
          (entry_taken c.in_ok-key.field-0 rest after c.in-Some.key c.in-Some.value c.in_ok-key.ensures c.in-Some.is) c.if-strict.false
          (ap (λ k. among k (strings c.args.names.now)) (sym c.as_str.ensures.value) ∙ c.in_default-position_of.ensures.none);
    }

pub returns-then-strict-clause-why : goal.returns-then-strict-clause-why
returns-then-strict-clause-why g c =
    let rest = entries_left c.loop-map.map in
    let after = entries_left c.next_entry.new.map in
    let x = c.unknown_field-unknown.ensures in
    field_unknown c.args.strict g.F.ExplainFields.fields (strings c.args.names.now) (entries_left c.args.map) rest after (string_bytes c.in-Some.key) (tree_of c.in-Some.value)
    (failure_of c.unknown_field-unknown.result) (failure_of c.in_ok-within_segment.field-0) c.loop-map.invariant.so_far
    (entry_taken c.in_ok-key.field-0 rest after c.in-Some.key c.in-Some.value c.in_ok-key.ensures c.in-Some.is) c.if-strict.true
    (ap (λ k. among k (strings c.args.names.now)) (sym c.as_str.ensures.value) ∙ c.in_default-position_of.ensures.none)
    (x.path, x.expected, x.error, x.wrong) (sym (x.found ∙ c.kind-found.ensures)) c.in_ok-within_segment.ensures

pub explain_at-requires : goal.explain_at-requires
explain_at-requires g c =
    let within = c.in-Some-position_of.ensures.within in
    let count = c.requires.count in
    omega arith

pub returns-in-Some-2-clause-why : goal.returns-in-Some-2-clause-why
returns-in-Some-2-clause-why g c =
    let parts = g.F.ExplainFields.fields in
    let rest = entries_left c.loop-map.map in
    let after = entries_left c.next_entry.new.map in
    let t = tree_of c.in-Some.value in
    field_fails c.args.strict parts (strings c.args.names.now) (entries_left c.args.map) rest after c.in-Some-position_of.index (string_bytes c.in-Some.key) t
    (failure_of c.in-Some-2.explanation) (failure_of c.in_ok-within_segment-2.field-0)
    c.requires.distinct c.loop-map.invariant.so_far
    (entry_taken c.in_ok-key.field-0 rest after c.in-Some.key c.in-Some.value c.in_ok-key.ensures c.in-Some.is)
    (c.in-Some-position_of.ensures.found ∙ ap Some c.as_str.ensures.value)
    (subst (λ o. ExplainsAt parts c.in-Some-position_of.index t (option_map failure_of o)) c.in-Some-2.is c.in_ok-explanation.ensures.why)
    c.in_ok-within_segment-2.ensures

pub loop-map-smaller : goal.loop-map-smaller
loop-map-smaller g c =
    let rest = entries_left c.loop-map.map in
    let after = entries_left c.next_entry.new.map in
    let counts : count_members rest ≡ suc (count_members after) =
    ap count_members (entry_taken c.in_ok-key.field-0 rest after c.in-Some.key c.in-Some.value c.in_ok-key.ensures c.in-Some.is) in
    omega arith

pub loop-map-preserved : goal.loop-map-preserved
loop-map-preserved g c =
    let parts = g.F.ExplainFields.fields in
    let rest = entries_left c.loop-map.map in
    let after = entries_left c.next_entry.new.map in
    let t = tree_of c.in-Some.value in
    let none : c.in_ok-explanation.field-0 ≡ None = search rules in
    let accepted : accepts_at parts c.in-Some-position_of.index t ≡ true =
    subst (λ o. ExplainsAt parts c.in-Some-position_of.index t (option_map failure_of o)) none c.in_ok-explanation.ensures.why in
    record {
      so_far = fields_next c.args.strict parts (strings c.args.names.now) (entries_left c.args.map) rest after c.in-Some-position_of.index (string_bytes c.in-Some.key) t
          c.requires.distinct c.loop-map.invariant.so_far
          (entry_taken c.in_ok-key.field-0 rest after c.in-Some.key c.in-Some.value c.in_ok-key.ensures c.in-Some.is)
          (c.in-Some-position_of.ensures.found ∙ ap Some c.as_str.ensures.value) accepted;
      same = fields_error_next c.args.strict g.F.Fields.parts (strings c.args.names.now) (entries_left c.args.map) rest after c.in-Some-position_of.index (string_bytes c.in-Some.key) t
          c.requires.distinct c.loop-map.invariant.same
          (entry_taken c.in_ok-key.field-0 rest after c.in-Some.key c.in-Some.value c.in_ok-key.ensures c.in-Some.is)
          (c.in-Some-position_of.ensures.found ∙ ap Some c.as_str.ensures.value)
          (subst (λ o. IfNone o (reading.accepts_at g.F.Fields.parts c.in-Some-position_of.index t ≡ true)) none c.in_ok-explanation.ensures.accepted);
    }

pub returns-clause-why : goal.returns-clause-why
returns-clause-why g c =
    let none : c.in_ok-key.field-0 ≡ None = search rules in
    fields_end c.args.strict g.F.ExplainFields.fields (strings c.args.names.now) (entries_left c.args.map) (entries_left c.loop-map.map) c.loop-map.invariant.so_far
    (entries_ended c.in_ok-key.field-0 (entries_left c.loop-map.map) (entries_left c.next_entry.new.map) c.in_ok-key.ensures none)

pub returns-clause-error : goal.returns-clause-error
returns-clause-error g c =
    let none : c.in_ok-key.field-0 ≡ None = search rules in
    fields_error_end c.args.strict g.F.Fields.parts (strings c.args.names.now) (entries_left c.args.map) (entries_left c.loop-map.map) c.loop-map.invariant.same
    (entries_ended c.in_ok-key.field-0 (entries_left c.loop-map.map) (entries_left c.next_entry.new.map) c.in_ok-key.ensures none)

pub returns-in-Some-2-clause-error : goal.returns-in-Some-2-clause-error
returns-in-Some-2-clause-error g c =
    let parts = g.F.Fields.parts in
    let rest = entries_left c.loop-map.map in
    let after = entries_left c.next_entry.new.map in
    let t = tree_of c.in-Some.value in
    field_error c.args.strict parts (strings c.args.names.now) (entries_left c.args.map) rest after c.in-Some-position_of.index (string_bytes c.in-Some.key) t
    c.in-Some-2.explanation.error c.in_ok-within_segment-2.field-0.error c.requires.distinct c.loop-map.invariant.same
    (entry_taken c.in_ok-key.field-0 rest after c.in-Some.key c.in-Some.value c.in_ok-key.ensures c.in-Some.is)
    (c.in-Some-position_of.ensures.found ∙ ap Some c.as_str.ensures.value)
    (subst (λ o. IfSome o (λ x. RejectsAt parts c.in-Some-position_of.index t x.error)) c.in-Some-2.is c.in_ok-explanation.ensures.error)
    (ap (λ f. f.error) c.in_ok-within_segment-2.ensures)
