use Rattle.std.proofs.Common.{◌+◌, ◌∷◌, ◌++◌, [], length, arith, rules}
use Rattle.ipld_show.specs.AfterPath.{after_segments}
use Rattle.ipld_show.specs.Skipping.{parts_in}
use Rattle.ipld_show.proofs.Skips.{parts_shorter, reached_first, reached_part, stopped_at_part, reached_end, stopped_at_end}
use Rattle.ipld_show.proofs.path.value_at.Goals as goal

pub loop-part-init : goal.loop-part-init
loop-part-init c = (c.utf8.path, omega arith, λ d behind b. reached_first d c.args.path.now c.args.block.now behind b)

pub returns-in-Err : goal.returns-in-Err
returns-in-Err c = λ d behind b.
    let cut = c.in-Some.ensures.byte (omega arith) (λ w o h. h) in
    let r = c.loop-part.invariant.2 d behind b in
    stopped_at_part d c.args.path.now c.loop-part.value.now c.loop-part.rest.now c.in-Some.part.now c.in-Some.more.now c.loop-part.before r cut
    (after_segments c.loop-part.before (parts_in (c.in-Some.part.now ∷ [])) r.inner ++ r.more) c.in-Err.error
    (c.in-Err.ensures.exact r.inner r.more r.begins)

pub loop-part-preserved : goal.loop-part-preserved
loop-part-preserved c =
    let cut = c.in-Some.ensures.byte (omega arith) (λ w o h. h) in
    let passed = c.in-Ok.ensures.passed in
    let all = c.loop-part.invariant.1 in (
      search rules,
      omega (arith, parts_shorter c.loop-part.rest.now c.in-Some.part.now c.in-Some.more.now cut),
      λ d behind b.
          let r = c.loop-part.invariant.2 d behind b in
          reached_part d c.args.path.now c.loop-part.value.now c.loop-part.rest.now c.in-Some.part.now c.in-Some.more.now c.loop-part.before r cut
          (after_segments c.loop-part.before (parts_in (c.in-Some.part.now ∷ [])) r.inner ++ r.more) (c.in-Ok.inner, c.in-Ok.passed)
          (c.in-Ok.ensures.exact r.inner r.more r.begins),
    )

pub returns-in-Ok-enter_segment : goal.returns-in-Ok-enter_segment
returns-in-Ok-enter_segment c = λ d behind b.
    let none = (rw c.in_default.is at c.split_once.ensures.byte) (omega arith) (λ w o h. h) in
    let r = c.loop-part.invariant.2 d behind b in
    reached_end d c.args.path.now c.loop-part.value.now c.loop-part.rest.now c.loop-part.before r none (c.loop-part.before + length (parts_in (c.loop-part.rest.now ∷ []))) (after_segments c.loop-part.before (parts_in (c.loop-part.rest.now ∷ [])) r.inner ++ r.more)
    (c.in-Ok-enter_segment.value, c.in-Ok-enter_segment.field-0-1) (c.in-Ok-enter_segment.ensures.exact r.inner r.more r.begins)

pub returns-in-Err-enter_segment : goal.returns-in-Err-enter_segment
returns-in-Err-enter_segment c = λ d behind b.
    let none = (rw c.in_default.is at c.split_once.ensures.byte) (omega arith) (λ w o h. h) in
    let r = c.loop-part.invariant.2 d behind b in
    stopped_at_end d c.args.path.now c.loop-part.value.now c.loop-part.rest.now c.loop-part.before r none (c.loop-part.before + length (parts_in (c.loop-part.rest.now ∷ []))) (after_segments c.loop-part.before (parts_in (c.loop-part.rest.now ∷ [])) r.inner ++ r.more)
    c.in-Err-enter_segment.error (c.in-Err-enter_segment.ensures.exact r.inner r.more r.begins)
