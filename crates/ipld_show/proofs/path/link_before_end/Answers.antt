use Rattle.std.proofs.Common.{◌+◌, ◌∷◌, ◌++◌, [], length, arith, rules}
use Rattle.ipld_show.specs.AfterPath.{after_segments}
use Rattle.ipld_show.specs.Skipping.{parts_in}
use Rattle.ipld_show.proofs.Skips.{parts_shorter}
use Rattle.ipld_show.proofs.Links.{on_way_first, on_way, link_at_part, no_link_at_end, link_at_end}
use Rattle.ipld_show.proofs.path.link_before_end.Goals as goal

pub loop-part-init : goal.loop-part-init
loop-part-init c = (c.utf8.path, omega arith, λ d behind b. on_way_first d c.args.path.now c.args.block.now behind b)

pub returns-in-Err : goal.returns-in-Err
returns-in-Err c = λ d behind b.
    let cut = c.in-Some.ensures.byte (omega arith) (λ w o h. h) in
    let w = c.loop-part.invariant.2 d behind b in
    link_at_part d c.args.path.now c.loop-part.value.now c.loop-part.rest.now c.in-Some.part.now c.in-Some.more.now c.loop-part.before w cut
    (after_segments c.loop-part.before (parts_in (c.in-Some.part.now ∷ [])) w.reached.inner ++ w.reached.more) c.in-Err.error c.link_or.result
    (c.in-Err.ensures.exact w.reached.inner w.reached.more w.reached.begins) (c.link_or.ensures w.reached.inner w.reached.more w.reached.begins)

pub loop-part-preserved : goal.loop-part-preserved
loop-part-preserved c =
    let cut = c.in-Some.ensures.byte (omega arith) (λ w o h. h) in
    let passed = c.in-Ok.ensures.passed in
    let all = c.loop-part.invariant.1 in (
      search rules,
      omega (arith, parts_shorter c.loop-part.rest.now c.in-Some.part.now c.in-Some.more.now cut),
      λ d behind b.
          let w = c.loop-part.invariant.2 d behind b in
          on_way d c.args.path.now c.loop-part.value.now c.loop-part.rest.now c.in-Some.part.now c.in-Some.more.now c.loop-part.before w cut
          (after_segments c.loop-part.before (parts_in (c.in-Some.part.now ∷ [])) w.reached.inner ++ w.reached.more) (c.in-Ok.inner, c.in-Ok.passed)
          (c.in-Ok.ensures.exact w.reached.inner w.reached.more w.reached.begins),
    )

pub returns-in-Ok-enter_segment : goal.returns-in-Ok-enter_segment
returns-in-Ok-enter_segment c = λ d behind b.
    let none = (rw c.in_default.is at c.split_once.ensures.byte) (omega arith) (λ w o h. h) in
    let w = c.loop-part.invariant.2 d behind b in
    no_link_at_end d c.args.path.now c.loop-part.value.now c.loop-part.rest.now c.loop-part.before w none (c.loop-part.before + length (parts_in (c.loop-part.rest.now ∷ []))) (after_segments c.loop-part.before (parts_in (c.loop-part.rest.now ∷ [])) w.reached.inner ++ w.reached.more)
    c.in-Ok-enter_segment.field-0 (c.in-Ok-enter_segment.ensures.exact w.reached.inner w.reached.more w.reached.begins)

pub returns-in-Err-enter_segment : goal.returns-in-Err-enter_segment
returns-in-Err-enter_segment c = λ d behind b.
    let none = (rw c.in_default.is at c.split_once.ensures.byte) (omega arith) (λ w o h. h) in
    let w = c.loop-part.invariant.2 d behind b in
    link_at_end d c.args.path.now c.loop-part.value.now c.loop-part.rest.now c.loop-part.before w none (c.loop-part.before + length (parts_in (c.loop-part.rest.now ∷ []))) (after_segments c.loop-part.before (parts_in (c.loop-part.rest.now ∷ [])) w.reached.inner ++ w.reached.more)
    c.in-Err-enter_segment.error c.link_or-in-Err-enter_segment.result (c.in-Err-enter_segment.ensures.exact w.reached.inner w.reached.more w.reached.begins)
    (c.link_or-in-Err-enter_segment.ensures w.reached.inner w.reached.more w.reached.begins)
