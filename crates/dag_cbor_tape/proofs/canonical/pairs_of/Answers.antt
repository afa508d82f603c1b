use Rattle.std.proofs.Common.{length, take, refl, sym, inr, ◌-◌}
use Rattle.dag_cbor_tape.proofs.Loop.{not_some}
use Rattle.dag_cbor_tape.proofs.Splitting.{none_from, split_on, split_only, no_content, no_value, split_end}
use Rattle.dag_cbor_tape.proofs.canonical.pairs_of.Goals as goal

pub returns-in_default-content_of-clause-err : goal.returns-in_default-content_of-clause-err
returns-in_default-content_of-clause-err c =
    inr (no_content c.args.block.now c.args.entries.now c.loop-first.rest.now c.in-Some.values.now c.in-Some.first.now c.in-Some.ensures.cases.0
    (none_from c.content_of.result _ _ c.in_default-content_of.not-Some c.content_of.ensures) c.loop-first.invariant.only)

pub loop-first-preserved : goal.loop-first-preserved
loop-first-preserved c =
    let rest = c.loop-first.rest.now in
    let behind = c.in-Ok.behind.now in
    record {
      on = split_on c.args.block.now c.args.entries.now rest c.in-Some.values.now behind c.in-Some.first.now c.in-Some-content_of.key.now (take (length rest - length behind) rest)
          c.loop-first.pairs.items c.push.new.self.items c.in-Some-content_of.key _ c.in-Some.ensures.cases.0 (sym c.in-Some-content_of.ensures) c.in-Ok.ensures.exact refl refl refl
          c.in-Ok-push.ensures.items c.loop-first.invariant.on;
      only = split_only c.args.block.now c.args.entries.now rest c.in-Some.values.now behind c.in-Some.first.now c.in-Some.ensures.cases.0 c.in-Ok.ensures.exact c.loop-first.invariant.only;
    }

pub returns-in-Err-clause-err : goal.returns-in-Err-clause-err
returns-in-Err-clause-err c =
    inr (no_value c.args.block.now c.args.entries.now c.loop-first.rest.now c.in-Some.values.now c.in-Some.first.now c.in-Err.fault c.in-Some.ensures.cases.0 c.in-Err.ensures.exact
    c.loop-first.invariant.only)

pub returns-clause-ok : goal.returns-clause-ok
returns-clause-ok c =
    split_end c.args.block.now c.args.entries.now c.loop-first.rest.now c.loop-first.pairs.items (not_some c.split_first.result _ _ c.in_default.not-Some c.split_first.ensures.cases)
    c.loop-first.invariant.on
