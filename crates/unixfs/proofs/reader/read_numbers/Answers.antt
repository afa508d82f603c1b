use Rattle.std.proofs.Common.{◌≡◌, ℕ, Option, Ok, ap, ◌∙◌, inr, arith, length}
use Rattle.std.proofs.lemmas.Bool.Decides.{nat_tests}
use Rattle.unixfs.proofs.Fields.{number_shorter}
use Rattle.unixfs.proofs.Numbers.{loop_step, loop_ends, loop_stops, loop_failed, loop_has, numbers_end, numbers_empty}
use Rattle.unixfs.proofs.reader.read_numbers.Goals as goal

pub loop-rest-smaller : goal.loop-rest-smaller
loop-rest-smaller c =
    number_shorter c.args.key c.in-Some.number c.loop-rest.rest.now c.in-Ok.after.now (c.in-Ok.ensures.exact ∙ ap (λ (o : Option ℕ). Ok (o, c.in-Ok.after.now)) c.in-Some.is)

pub loop-rest-preserved : goal.loop-rest-preserved
loop-rest-preserved c =
    loop_step c.args.key c.in-Some.number c.loop-rest.numbers.items c.push_number.new.numbers.items c.loop-rest.rest.now c.in-Ok.after.now c.args.bytes.now c.loop-rest.invariant
    (c.in-Ok.ensures.exact ∙ ap (λ (o : Option ℕ). Ok (o, c.in-Ok.after.now)) c.in-Some.is) c.in_ok-push_number-in-Some.ensures

pub returns-in-None-clause-exact : goal.returns-in-None-clause-exact
returns-in-None-clause-exact c =
    loop_ends c.args.key c.loop-rest.numbers.items c.loop-rest.rest.now c.in-Ok.after.now c.args.bytes.now c.loop-rest.invariant
    (numbers_end c.args.key c.loop-rest.rest.now c.in-Ok.after.now (c.in-Ok.ensures.exact ∙ ap (λ (o : Option ℕ). Ok (o, c.in-Ok.after.now)) c.in-None.is))

pub returns-in-Err-clause-exact : goal.returns-in-Err-clause-exact
returns-in-Err-clause-exact c = inr (loop_stops c.args.key c.loop-rest.numbers.items c.loop-rest.rest.now c.args.bytes.now c.in-Err.fault c.loop-rest.invariant c.in-Err.ensures.exact)

pub returns-clause-exact : goal.returns-clause-exact
returns-clause-exact c =
    let none : length c.loop-rest.rest.now ≡ 0 = let e = c.is_empty.ensures in let f = c.loop-rest-test.false in grind (arith, nat_tests) in
    loop_ends c.args.key c.loop-rest.numbers.items c.loop-rest.rest.now c.loop-rest.rest.now c.args.bytes.now c.loop-rest.invariant (numbers_empty c.args.key c.loop-rest.rest.now none)

pub returns-in-Err-clause-no_sizes : goal.returns-in-Err-clause-no_sizes
returns-in-Err-clause-no_sizes c = λ rest read.
    let stopped = loop_stops c.args.key c.loop-rest.numbers.items c.loop-rest.rest.now c.args.bytes.now c.in-Err.fault c.loop-rest.invariant c.in-Err.ensures.exact in
    absurd (loop_failed c.args.key c.args.bytes.now rest c.in-Err.fault stopped read)

pub returns-in_err-push_number-in-Some-clause-no_sizes : goal.returns-in_err-push_number-in-Some-clause-no_sizes
returns-in_err-push_number-in-Some-clause-no_sizes c = λ rest read.
    absurd (loop_has c.args.key c.in-Some.number c.loop-rest.numbers.items c.loop-rest.rest.now c.in-Ok.after.now c.args.bytes.now rest c.loop-rest.invariant
    (c.in-Ok.ensures.exact ∙ ap (λ (o : Option ℕ). Ok (o, c.in-Ok.after.now)) c.in-Some.is) read)
