use Rattle.std.proofs.Common.{◌-◌, take, None, sym, ap, ◌∙◌}
use Rattle.std.specs.Prelude.{◌&&◌}
use Rattle.dag_cbor_format.specs.KeysAscend.{keys_ascend}
use Rattle.dag_cbor_blocks.specs.OrderChecker.{lasts_of}
use Rattle.dag_cbor_blocks.proofs.OrderChecks.{pushed, popped, key_outside, key_taken, others_ascend}
use Rattle.dag_cbor_blocks.proofs.canonical.OrderCheckerBorrowingVisitor.visit.Goals as goal

pub returns-in_default : goal.returns-in_default
returns-in_default c = λ key more.
    let old = c.args.self.now in
    ap (λ b. old.is_sorted && b) (sym (others_ascend c.args.event.now c.in_default.not-Map c.in_default.not-Key c.in_default.not-EndOfMap (lasts_of old) c.args._left key more))

pub returns-in_ok-push-in-Map : goal.returns-in_ok-push-in-Map
returns-in_ok-push-in-Map c = λ key more.
    let old = c.args.self.now in
    rw c.in-Map.is (ap (λ ls. old.is_sorted && keys_ascend ls more) (pushed old.lasts.items c.push.new.self.items None c.in_ok-push-in-Map.ensures.items))

pub returns-in-EndOfMap : goal.returns-in-EndOfMap
returns-in-EndOfMap c = λ key more.
    let old = c.args.self.now in
    rw c.in-EndOfMap.is (ap (λ ls. old.is_sorted && keys_ascend ls more) (popped old.lasts.items _ (c.pop-last.ensures.rest ∙ ap (λ n. take (n - 1) old.lasts.items) old.lasts.ok.0)))

pub returns-in-Some : goal.returns-in-Some
returns-in-Some c = λ key.
    rw c.in-Key.is (key_taken c.args.self.now c.follow.new.self c.pop.new.self.items c.in-Some.last _ c.follow.result c.args._left (rw c.in-Some.is at c.pop.ensures.items) c.follow.ensures.lasts c.follow.ensures.is_sorted)

pub returns-in-None : goal.returns-in-None
returns-in-None c = λ key more.
    let old = c.args.self.now in
    let none = rw c.in-None.is at c.pop.ensures.cases in
    rw c.in-Key.is (key_outside old.is_sorted old.lasts.items c.pop.new.self.items _ more (sym old.lasts.ok.0 ∙ none.0) (rw c.in-None.is at c.pop.ensures.items))
