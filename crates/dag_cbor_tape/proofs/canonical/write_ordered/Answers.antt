use Rattle.std.proofs.Common.{◌≡◌, ℕ, List, length, refl, sym, ◌∙◌}
use Rattle.std.proofs.lemmas.Result.{err_from_is_err_and}
use Rattle.dag_cbor_tape.specs.Canonical.{IsCanonicalOf, Orders}
use Rattle.dag_cbor_tape.proofs.Ordering.{tape_leads, described_leads}
use Rattle.dag_cbor_tape.proofs.Stepping.{pushed, starts, goes_down, goes_on, stops, passes}
use Rattle.dag_cbor_tape.proofs.Loop.{not_some}
use Rattle.dag_cbor_tape.proofs.canonical.write_ordered.Goals as goal

pub loop-rest-init : goal.loop-rest-init
loop-rest-init c =
    let put = pushed c.push.result c.push.new.self.items _ _ (sym c.is_err.ensures.value ∙ c.if-is_err.false) c.push.ensures.items in
    record {
      of_block = λ tape.
          starts c.args.block.now (IsCanonicalOf c.args.block.now) c.args.entries.now c.args.out.items c.new-todo.result.items c.push.new.self.items c.args.entries
          (tape_leads c.args.block.now c.args.entries.now tape) c.requires c.new-todo.ensures.items put refl;
      of_tape = λ item written narrow d.
          starts c.args.block.now (Orders item written) c.args.entries.now c.args.out.items c.new-todo.result.items c.push.new.self.items c.args.entries
          (described_leads c.args.block.now c.args.entries.now item written narrow d) c.requires c.new-todo.ensures.items put refl;
    }

pub loop-rest-smaller-in-Continue-1 : goal.loop-rest-smaller-in-Continue-1
loop-rest-smaller-in-Continue-1 c =
    goes_down c.args.block.now (IsCanonicalOf c.args.block.now) c.loop-rest.out.items c.write_next.new.out.items c.in-Some-split_first.entry.now c.in-Some-split_first.following.now
    c.loop-rest.todo.items c.pop.new.self.items c.write_next.new.todo.items c.in-Some.rest c.in-Some.ensures.items c.in-Some-split_first.ensures.cases.0 c.in_ok-write_next.ensures.ok

pub loop-rest-preserved-in-Continue-1 : goal.loop-rest-preserved-in-Continue-1
loop-rest-preserved-in-Continue-1 c =
    let on = λ (Q : List ℕ → Type 0). goes_on c.args.block.now Q c.loop-rest.out.items c.write_next.new.out.items c.in-Some-split_first.entry.now c.in-Some-split_first.following.now
    c.loop-rest.todo.items c.pop.new.self.items c.write_next.new.todo.items c.in-Some.rest c.in-Some.ensures.items c.in-Some-split_first.ensures.cases.0 c.in_ok-write_next.ensures.ok in
    record {
      of_block = λ tape. on (IsCanonicalOf c.args.block.now) (c.loop-rest.invariant.of_block tape);
      of_tape = λ item written narrow d. on (Orders item written) (c.loop-rest.invariant.of_tape item written narrow d);
    }

pub loop-rest-preserved : goal.loop-rest-preserved
loop-rest-preserved c =
    let none : length c.in-Some.rest.now ≡ 0 = not_some c.split_first.result _ _ c.in_default-split_first.not-Some c.split_first.ensures.cases in
    record {
      of_block = λ tape.
          passes c.args.block.now (IsCanonicalOf c.args.block.now) c.loop-rest.out.items c.loop-rest.todo.items c.pop.new.self.items c.in-Some.rest c.in-Some.ensures.items none
          (c.loop-rest.invariant.of_block tape);
      of_tape = λ item written narrow d.
          passes c.args.block.now (Orders item written) c.loop-rest.out.items c.loop-rest.todo.items c.pop.new.self.items c.in-Some.rest c.in-Some.ensures.items none
          (c.loop-rest.invariant.of_tape item written narrow d);
    }

pub returns-in_err-write_next-clause-of_block : goal.returns-in_err-write_next-clause-of_block
returns-in_err-write_next-clause-of_block c tape =
    let e = c.in_err-write_next.field-0.0 in
    let p = err_from_is_err_and c.from_residual.result c.from_residual.ensures.1 in
    rw (p.1, p.2) (
    stops c.args.block.now (IsCanonicalOf c.args.block.now) c.loop-rest.out.items c.in-Some-split_first.entry.now c.in-Some-split_first.following.now c.loop-rest.todo.items c.pop.new.self.items
    c.in-Some.rest e c.in-Some.ensures.items c.in-Some-split_first.ensures.cases.0 c.in_err-write_next.ensures.err (c.loop-rest.invariant.of_block tape)
    )

pub returns-in_err-write_next-clause-of_tape : goal.returns-in_err-write_next-clause-of_tape
returns-in_err-write_next-clause-of_tape c item written narrow d =
    let e = c.in_err-write_next.field-0.0 in
    let p = err_from_is_err_and c.from_residual.result c.from_residual.ensures.1 in
    rw (p.1, p.2) (
    stops c.args.block.now (Orders item written) c.loop-rest.out.items c.in-Some-split_first.entry.now c.in-Some-split_first.following.now c.loop-rest.todo.items c.pop.new.self.items
    c.in-Some.rest e c.in-Some.ensures.items c.in-Some-split_first.ensures.cases.0 c.in_err-write_next.ensures.err (c.loop-rest.invariant.of_tape item written narrow d)
    )
