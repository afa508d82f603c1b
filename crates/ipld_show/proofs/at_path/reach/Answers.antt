use Rattle.std.proofs.Common.{◌+◌, ◌∷◌, ◌++◌, [], length, arith, rules}
use Rattle.ipld_show.specs.AfterPath.{after_segments}
use Rattle.ipld_show.specs.Skipping.{parts_in}
use Rattle.ipld_show.proofs.Skips.{parts_shorter}
use Rattle.ipld_show.proofs.Reaching.{reaching_first, reaching_on, reached_all, stopped_in, stopped_last}
use Rattle.ipld_show.proofs.at_path.reach.Goals as goal

pub loop-part-init : goal.loop-part-init
loop-part-init c = (c.utf8.path, omega arith, λ d behind b. reaching_first d c.args.path.now c.args.block.now behind b)

pub returns-in-Err : goal.returns-in-Err
returns-in-Err c = λ d behind b.
    let cut = c.in-Some.ensures.byte (omega arith) (λ w o h. h) in
    let r = c.loop-part.invariant.2 d behind b in
    let at = r.way.reached in
    stopped_in d c.args.path.now behind c.loop-part.value.now c.loop-part.rest.now c.loop-part.before r c.args.block.now b c.in-Some.part.now c.in-Some.more.now cut
    (after_segments c.loop-part.before (parts_in (c.in-Some.part.now ∷ [])) at.inner ++ at.more) c.in-Err.error c.link_place_or.result
    (c.in-Err.ensures.exact at.inner at.more at.begins) (c.link_place_or.ensures at.inner at.more at.begins)

pub loop-part-preserved : goal.loop-part-preserved
loop-part-preserved c =
    let cut = c.in-Some.ensures.byte (omega arith) (λ w o h. h) in
    let passed = c.in-Ok.ensures.passed in
    let all = c.loop-part.invariant.1 in (
      search rules,
      omega (arith, parts_shorter c.loop-part.rest.now c.in-Some.part.now c.in-Some.more.now cut),
      λ d behind b.
          let r = c.loop-part.invariant.2 d behind b in
          let at = r.way.reached in
          reaching_on d c.args.path.now behind c.loop-part.value.now c.loop-part.rest.now c.loop-part.before r c.in-Some.part.now c.in-Some.more.now cut (c.in-Ok.inner, c.in-Ok.passed)
          (c.in-Ok.ensures.exact at.inner at.more at.begins),
    )

pub returns-in-Ok-enter_segment : goal.returns-in-Ok-enter_segment
returns-in-Ok-enter_segment c = λ d behind b.
    let none = (rw c.in_default.is at c.split_once.ensures.byte) (omega arith) (λ w o h. h) in
    let r = c.loop-part.invariant.2 d behind b in
    let at = r.way.reached in
    reached_all d c.args.path.now behind c.loop-part.value.now c.loop-part.rest.now c.loop-part.before r c.args.block.now b none (c.loop-part.before + length (parts_in (c.loop-part.rest.now ∷ [])))
    (c.in-Ok-enter_segment.value, c.in-Ok-enter_segment.field-0-1) c.place_of.result (c.in-Ok-enter_segment.ensures.exact at.inner at.more at.begins) c.place_of.ensures

pub returns-in-Err-enter_segment : goal.returns-in-Err-enter_segment
returns-in-Err-enter_segment c = λ d behind b.
    let none = (rw c.in_default.is at c.split_once.ensures.byte) (omega arith) (λ w o h. h) in
    let r = c.loop-part.invariant.2 d behind b in
    let at = r.way.reached in
    stopped_last d c.args.path.now behind c.loop-part.value.now c.loop-part.rest.now c.loop-part.before r c.args.block.now b none (c.loop-part.before + length (parts_in (c.loop-part.rest.now ∷ [])))
    (after_segments c.loop-part.before (parts_in (c.loop-part.rest.now ∷ [])) at.inner ++ at.more) c.in-Err-enter_segment.error c.link_place_or-in-Err-enter_segment.result
    (c.in-Err-enter_segment.ensures.exact at.inner at.more at.begins) (c.link_place_or-in-Err-enter_segment.ensures at.inner at.more at.begins)
