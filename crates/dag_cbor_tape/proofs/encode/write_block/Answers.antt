use Rattle.std.proofs.Common.{◌≡◌, ◌∙◌, sym, ap, subst, inl, inr, length, Ok, Err, arith}
use Rattle.std.proofs.lemmas.Bool.{and_parts}
use Rattle.dag_cbor_tape.specs.Canonical.{Orders}
use Rattle.dag_cbor_tape.specs.Describes.{AreNarrow}
use Rattle.dag_cbor_tape.specs.declared.error.EncodeError.{EncodeError}
use Rattle.dag_cbor_tape.proofs.InTurn.{row_starts, row_step, row_ends, none_narrow}
use Rattle.dag_cbor_tape.proofs.Loop.{loop_step, loop_stops, loop_ends, block_is, block_fails, not_some, not_err, nothing_before}
use Rattle.dag_cbor_tape.proofs.Sound.{block_sound}
use Rattle.dag_cbor_tape.proofs.Ordering.{described_leads}
use Rattle.dag_cbor_tape.proofs.Told.{placed}
use Rattle.dag_cbor_tape.proofs.encode.write_block.Goals as goal

pub returns-in-Err-clause-exact : goal.returns-in-Err-clause-exact
returns-in-Err-clause-exact c =
    inr (block_fails c.args.contents.now c.args.entries.now c.in-Err.fault (sym c.in-Err.ensures.exact) ∙ ap (λ (e : EncodeError). Err e) (sym c.in_tape.ensures))

pub loop-entry-init : goal.loop-entry-init
loop-entry-init c = record {
  goes_on = nothing_before c.in_ok-out.out.items _ c.in_ok-out.ensures.empty;
  narrow = λ n. n;
  in_turn = λ item written n d o.
      row_starts c.args.contents.now (Orders item written) c.in_ok-out.out.items c.args.entries.now c.in_ok-out.ensures.empty
      (described_leads c.args.contents.now c.args.entries.now item written n d);
}

pub loop-entry-preserved : goal.loop-entry-preserved
loop-entry-preserved c =
    let parts = c.in-Some.ensures.cases.0 in
    let added = c.in-Ok.ensures.added in
    record {
      goes_on = loop_step c.args.contents.now c.in-Some.entry.now c.in-Some.following.now c.loop-entry.rest.now c.loop-entry.out.items added.0 c.write_next.new.out.items _
          parts added.1 added.2 c.loop-entry.invariant.goes_on;
      narrow = λ n. c.loop-entry.invariant.narrow (subst AreNarrow (sym parts) (c.write_next.ensures.narrow.0, c.write_next.ensures.narrow.1, n));
      in_turn = λ item written n d o.
          let both = and_parts c.loop-entry.is_ordered c.in-Ok.in_turn o in
          row_step c.args.contents.now (Orders item written) c.loop-entry.out.items added.0 c.write_next.new.out.items c.in-Some.entry.now c.in-Some.following.now c.loop-entry.rest.now
          parts added.1 added.2 (added.3 both.1) (c.loop-entry.invariant.in_turn item written n d both.0);
    }

pub returns-in-Err-write_next-clause-exact : goal.returns-in-Err-write_next-clause-exact
returns-in-Err-write_next-clause-exact c =
    elim c.in-Err-write_next.ensures.added [
      | inl memory ↦ inl (placed (length c.args.entries.now) c.in-Err-write_next.fault c.in_tape-in-Err-write_next.result c.in_tape-in-Err-write_next.ensures memory)
      | inr is ↦
          inr (block_is c.args.contents.now c.args.entries.now (Err c.in-Err-write_next.fault)
          (sym c.check_values.ensures.exact ∙ not_err c.check_values.result c.in_default.not-Err)
          (loop_stops c.args.contents.now c.in-Some.entry.now c.in-Some.following.now c.loop-entry.rest.now c.loop-entry.out.items c.in-Err-write_next.fault _
          c.in-Some.ensures.cases.0 is c.loop-entry.invariant.goes_on)
          ∙ ap (λ (e : EncodeError). Err e) (sym c.in_tape-in-Err-write_next.ensures))
    ]

pub returns-then-is_ordered-clause-found : goal.returns-then-is_ordered-clause-found
returns-then-is_ordered-clause-found c =
    let none : length c.loop-entry.rest.now ≡ 0 = not_some c.split_first.result _ _ c.in_default-split_first.not-Some c.split_first.ensures.cases in (
      c.loop-entry.out.items,
      block_is c.args.contents.now c.args.entries.now (Ok c.loop-entry.out.items) (sym c.check_values.ensures.exact ∙ not_err c.check_values.result c.in_default.not-Err)
          (loop_ends c.args.contents.now c.loop-entry.out.items c.loop-entry.rest.now _ none c.loop-entry.invariant.goes_on),
    )

pub returns-then-is_ordered-clause-ordered : goal.returns-then-is_ordered-clause-ordered
returns-then-is_ordered-clause-ordered c item written d =
    let none : length c.loop-entry.rest.now ≡ 0 = not_some c.split_first.result _ _ c.in_default-split_first.not-Some c.split_first.ensures.cases in
    let narrow = c.loop-entry.invariant.narrow (none_narrow c.loop-entry.rest.now none) in
    row_ends c.args.contents.now (Orders item written) c.loop-entry.out.items c.loop-entry.rest.now none (c.loop-entry.invariant.in_turn item written narrow d c.if-is_ordered.true)

pub returns-in-Ok-write_ordered-clause-found : goal.returns-in-Ok-write_ordered-clause-found
returns-in-Ok-write_ordered-clause-found c =
    let none : length c.loop-entry.rest.now ≡ 0 = not_some c.split_first.result _ _ c.in_default-split_first.not-Some c.split_first.ensures.cases in (
      c.loop-entry.out.items,
      block_is c.args.contents.now c.args.entries.now (Ok c.loop-entry.out.items) (sym c.check_values.ensures.exact ∙ not_err c.check_values.result c.in_default.not-Err)
          (loop_ends c.args.contents.now c.loop-entry.out.items c.loop-entry.rest.now _ none c.loop-entry.invariant.goes_on),
    )

pub returns-in-Err-write_ordered-clause-exact : goal.returns-in-Err-write_ordered-clause-exact
returns-in-Err-write_ordered-clause-exact c =
    let none : length c.loop-entry.rest.now ≡ 0 = not_some c.split_first.result _ _ c.in_default-split_first.not-Some c.split_first.ensures.cases in
    let narrow = c.loop-entry.invariant.narrow (none_narrow c.loop-entry.rest.now none) in
    let written = block_is c.args.contents.now c.args.entries.now (Ok c.loop-entry.out.items) (sym c.check_values.ensures.exact ∙ not_err c.check_values.result c.in_default.not-Err)
    (loop_ends c.args.contents.now c.loop-entry.out.items c.loop-entry.rest.now _ none c.loop-entry.invariant.goes_on) in
    let d = block_sound c.args.contents.now c.args.entries.now c.loop-entry.out.items (λ i. omega (arith, c.type_inv.contents i)) written in
    inl (c.in-Err-write_ordered.ensures.of_tape d.0 c.loop-entry.out.items narrow d.1, omega arith)
