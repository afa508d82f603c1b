use Rattle.std.proofs.Common.{[], ◌∷◌, ◌++◌, sym, ap, ◌∙◌}
use Rattle.ipld_tree.proofs.Copying.{entered, entered_work, left, left_work}
use Rattle.ipld_tree.proofs.clone.by_loop.Copying.complete.Goals as goal

pub loop-value-smaller-in-Continue-branch-4 : goal.loop-value-smaller-in-Continue-branch-4
loop-value-smaller-in-Continue-branch-4 c =
    let ok = c.in_ok-enter-in-Open.ensures in
    entered_work c.loop-value.self.outer.items c.enter.new.self.outer.items c.loop-value.self.innermost c.next.new.self c.enter.new.self.innermost c.in-Open.container c.in_ok-copy-in-Some.field-0 _
    c.in-Some.ensures.1 c.in_ok-copy-in-Some.ensures.work c.in-Open.is ok.innermost ok.outer

pub loop-value-preserved-in-Continue-branch-4 : goal.loop-value-preserved-in-Continue-branch-4
loop-value-preserved-in-Continue-branch-4 c =
    let ok = c.in_ok-enter-in-Open.ensures in
    entered c.loop-value.self.outer.items c.enter.new.self.outer.items c.loop-value.self.innermost c.next.new.self c.enter.new.self.innermost c.in-Open.container c.in_ok-copy-in-Some.field-0 _ _
    c.loop-value.invariant c.in-Some.ensures.0 c.in_ok-copy-in-Some.ensures.copy c.in-Open.is ok.innermost ok.outer

pub loop-value-smaller : goal.loop-value-smaller
loop-value-smaller c =
    let ok = c.in_ok-leave-in-Some-pop.ensures in
    left_work c.loop-value.self.outer.items c.leave.new.self.outer.items c.loop-value.self.innermost c.in-Some-pop.around c.leave.new.self.innermost
    (c.in-Some-pop.ensures.items ∙ ap (λ cs. cs ++ c.in-Some-pop.around ∷ []) (sym ok.outer)) ok.work

pub loop-value-preserved : goal.loop-value-preserved
loop-value-preserved c =
    let ok = c.in_ok-leave-in-Some-pop.ensures in
    left c.loop-value.self.outer.items c.leave.new.self.outer.items c.loop-value.self.innermost c.next.new.self c.in-Some-pop.around c.leave.new.self.innermost _ c.loop-value.invariant c.in-None.ensures.1
    (c.in-Some-pop.ensures.items ∙ ap (λ cs. cs ++ c.in-Some-pop.around ∷ []) (sym ok.outer)) (ok.copy c.in-None.ensures.0)
