use Rattle.std.proofs.Common.{◌++◌, length, reverse, ap, refl, subst, ◌∙◌, arith}
use Rattle.ipld_show.specs.JsonFrames.{Leads}
use Rattle.ipld_show.proofs.Jsons.{running_first, running_next, running_last, not_running, memory_error}
use Rattle.ipld_show.proofs.json_text.write_json.Goals as goal

pub loop-init : goal.loop-init
loop-init c = λ d behind b.
    running_first d c.args.value.now behind (reverse c.new-frames.result.items) (record { rest = c.args.value; containers = c.deref.result }) c.args.writer.now b
    (ap reverse c.new-frames.ensures.items) refl (c.deref.ensures.value ∙ c.in-Ok.ensures d behind b)

pub returns-in-Err : goal.returns-in-Err
returns-in-Err c = λ d behind b. memory_error d c.in-Err.error (c.in-Err.ensures d behind b)

pub returns-in-Err-write_value : goal.returns-in-Err-write_value
returns-in-Err-write_value c = λ d behind b.
    let r = c.loop.invariant d behind b in
    c.in-Err-write_value.ensures d r.tokens r.left r.coming

pub returns-in-None : goal.returns-in-None
returns-in-None c = λ d behind b.
    let r = c.loop.invariant d behind b in
    let wrote = c.in-Ok-write_value.ensures d r.tokens r.left r.coming in
    let fs = reverse c.next_value_place.new.frames.items in
    let total = length c.args.value.now in
    let mid = c.write_value.new.writer in
    let new = c.next_value_place.new.writer in
    let l = subst (λ x. Leads d total fs x (r.tokens ++ wrote.tokens) wrote.left mid new) c.in-None.is (c.in_ok-next.ensures d total (r.tokens ++ wrote.tokens) wrote.left wrote.behind) in
    running_last d total _ _ fs _ _ _ _ mid new _ r wrote l

pub loop-preserved : goal.loop-preserved
loop-preserved c = λ d behind b.
    let r = c.loop.invariant d behind b in
    let wrote = c.in-Ok-write_value.ensures d r.tokens r.left r.coming in
    let fs = reverse c.next_value_place.new.frames.items in
    let total = length c.args.value.now in
    let mid = c.write_value.new.writer in
    let new = c.next_value_place.new.writer in
    let l = subst (λ x. Leads d total fs x (r.tokens ++ wrote.tokens) wrote.left mid new) c.in-Some.is (c.in_ok-next.ensures d total (r.tokens ++ wrote.tokens) wrote.left wrote.behind) in
    running_next d total _ _ fs _ _ c.in-Some.next _ _ mid new _ _ r wrote l (omega arith)

pub returns : goal.returns
returns c = λ d behind b. absurd (not_running d c.args.value.now behind _ _ _ _ c.loop.counter b (omega arith) (c.loop.invariant d behind b))
