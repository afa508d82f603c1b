use Rattle.std.proofs.Common.{◌++◌, reverse, vec_len, subst, arith}
use Rattle.ipld_show.specs.JsonFrames.{Behind, Steps, LeavesIt}
use Rattle.ipld_show.proofs.Jsons.{step_leads, step_ends}
use Rattle.ipld_show.proofs.Trees.{reverse_pop}
use Rattle.ipld_show.proofs.json_text.next_value_place.Goals as goal

pub returns-in-Value : goal.returns-in-Value
returns-in-Value c = λ whole total w n b.
    let old = c.args.writer.now in
    let mid = c.loop-frame.writer in
    let new = c.write_next.new.writer in
    let i = c.loop-frame.invariant whole total w n b in
    let p = subst (λ fs. Behind whole total fs c.loop-frame.place.rest.now c.loop-frame.place.containers.now (w ++ i.0) n)
    (reverse_pop c.loop-frame.frames.items c.pop.new.self.items c.in-Some.frame c.in-Some.ensures.items) i.2 in
    let s = subst (λ x. Steps whole total (reverse c.write_next.new.frames.items) x (w ++ i.0) n mid new) c.in-Value.is (c.in_ok-next.ensures.goes_on whole total (w ++ i.0) n p) in
    step_leads whole total (reverse c.write_next.new.frames.items) w i.0 n old mid new i.1 c.in-Value.next s

pub loop-frame-smaller : goal.loop-frame-smaller
loop-frame-smaller c =
    let kept = subst (λ x. LeavesIt x (vec_len c.pop.new.self) (vec_len c.write_next.new.frames)) c.in-End.is c.in_ok-next.ensures.kept in
    omega (arith, kept, c.in-Some.ensures.cases)

pub loop-frame-preserved : goal.loop-frame-preserved
loop-frame-preserved c = λ whole total w n b.
    let old = c.args.writer.now in
    let mid = c.loop-frame.writer in
    let new = c.write_next.new.writer in
    let i = c.loop-frame.invariant whole total w n b in
    let p = subst (λ fs. Behind whole total fs c.loop-frame.place.rest.now c.loop-frame.place.containers.now (w ++ i.0) n)
    (reverse_pop c.loop-frame.frames.items c.pop.new.self.items c.in-Some.frame c.in-Some.ensures.items) i.2 in
    let s = subst (λ x. Steps whole total (reverse c.write_next.new.frames.items) x (w ++ i.0) n mid new) c.in-End.is (c.in_ok-next.ensures.goes_on whole total (w ++ i.0) n p) in
    step_ends whole total (reverse c.write_next.new.frames.items) w i.0 n old mid new i.1 c.in-End.after s
