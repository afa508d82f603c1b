use Rattle.std.proofs.Common.{rules, arith, ◌≡◌, suc, string_bytes, None, option_map, IsSome, IfSome, ap, subst}
use Rattle.ipld_tree.specs.TreeOf.{tree_of}
use Rattle.ipld_de.specs.Cursors.{entries_left}
use Rattle.ipld_de.specs.Forms.{count_members}
use Rattle.ipld_explain.specs.Failures.{failure_of, Explains}
use Rattle.ipld_explain.proofs.Entering.{entries_new, entries_next, entry_fails, entries_end, entries_error_next, entry_error}
use Rattle.ipld_explain.proofs.Taken.{entry_taken, entries_ended}
use Rattle.ipld_explain.proofs.containers.explain_values.Goals as goal

pub loop-map-init : goal.loop-map-init
loop-map-init g c = record { so_far = entries_new g.T.Deserialize.reads g.T.Explain.fails (entries_left c.args.map) c.requires; same = λ e why. why }

pub returns-in-Some-2-clause-why : goal.returns-in-Some-2-clause-why
returns-in-Some-2-clause-why g c =
    let reads = g.T.Deserialize.reads in
    let fails = g.T.Explain.fails in
    let rest = entries_left c.loop-map.map in
    let after = entries_left c.next_entry.new.map in
    let t = tree_of c.in-Some.value in
    entry_fails reads fails (entries_left c.args.map) rest after (string_bytes c.in-Some.key) t (failure_of c.in-Some-2.explanation) (failure_of c.in_ok-within_segment.field-0)
    c.loop-map.invariant.so_far
    (entry_taken c.in_ok-key.field-0 rest after c.in-Some.key c.in-Some.value c.in_ok-key.ensures c.in-Some.is)
    (subst (λ o. Explains reads fails t (option_map failure_of o)) c.in-Some-2.is c.in_ok-explanation.ensures.why)
    c.in_ok-within_segment.ensures

pub returns-in-Some-2-clause-error : goal.returns-in-Some-2-clause-error
returns-in-Some-2-clause-error g c =
    let reads = g.T.Deserialize.reads in
    let error = g.T.Deserialize.read_error in
    let rest = entries_left c.loop-map.map in
    let after = entries_left c.next_entry.new.map in
    let t = tree_of c.in-Some.value in
    entry_error reads error (entries_left c.args.map) rest after (string_bytes c.in-Some.key) t c.in-Some-2.explanation.error c.in_ok-within_segment.field-0.error
    c.loop-map.invariant.same
    (entry_taken c.in_ok-key.field-0 rest after c.in-Some.key c.in-Some.value c.in_ok-key.ensures c.in-Some.is)
    (subst (λ o. Explains reads g.T.Explain.fails t (option_map failure_of o)) c.in-Some-2.is c.in_ok-explanation.ensures.why).0
    (subst (λ o. IfSome o (λ x. error t x.error)) c.in-Some-2.is c.in_ok-explanation.ensures.error)
    (ap (λ f. f.error) c.in_ok-within_segment.ensures)

pub loop-map-smaller : goal.loop-map-smaller
loop-map-smaller g c =
    let rest = entries_left c.loop-map.map in
    let after = entries_left c.next_entry.new.map in
    let counts : count_members rest ≡ suc (count_members after) =
    ap count_members (entry_taken c.in_ok-key.field-0 rest after c.in-Some.key c.in-Some.value c.in_ok-key.ensures c.in-Some.is) in
    omega arith

pub loop-map-preserved : goal.loop-map-preserved
loop-map-preserved g c =
    let reads = g.T.Deserialize.reads in
    let fails = g.T.Explain.fails in
    let rest = entries_left c.loop-map.map in
    let after = entries_left c.next_entry.new.map in
    let t = tree_of c.in-Some.value in
    let none : c.in_ok-explanation.field-0 ≡ None = search rules in
    let read : IsSome (reads t) = subst (λ o. Explains reads fails t (option_map failure_of o)) none c.in_ok-explanation.ensures.why in
    record {
      so_far = entries_next reads fails (entries_left c.args.map) rest after (string_bytes c.in-Some.key) t c.loop-map.invariant.so_far
          (entry_taken c.in_ok-key.field-0 rest after c.in-Some.key c.in-Some.value c.in_ok-key.ensures c.in-Some.is) read;
      same = entries_error_next reads g.T.Deserialize.read_error (entries_left c.args.map) rest after (string_bytes c.in-Some.key) t c.loop-map.invariant.same
          (entry_taken c.in_ok-key.field-0 rest after c.in-Some.key c.in-Some.value c.in_ok-key.ensures c.in-Some.is) read;
    }

pub returns-clause-why : goal.returns-clause-why
returns-clause-why g c =
    let none : c.in_ok-key.field-0 ≡ None = search rules in
    entries_end g.T.Deserialize.reads g.T.Explain.fails (entries_left c.args.map) (entries_left c.loop-map.map) c.loop-map.invariant.so_far
    (entries_ended c.in_ok-key.field-0 (entries_left c.loop-map.map) (entries_left c.next_entry.new.map) c.in_ok-key.ensures none)
