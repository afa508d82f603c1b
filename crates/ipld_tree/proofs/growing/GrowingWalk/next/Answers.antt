use Rattle.std.proofs.Common.{◌∷◌, ◌++◌, [], refl, ap}
use Rattle.std.proofs.Math.Nat.{le_refl}
use Rattle.std.proofs.Common.{length}
use Rattle.ipld_tree.specs.Cursors.{left_of, levels_of, cursors_in}
use Rattle.ipld_tree.specs.Growing.{levels_in}
use Rattle.ipld_tree.proofs.Reaching.{at_start, taken, opened_whole, popped, popped_cursor}
use Rattle.ipld_tree.proofs.growing.GrowingWalk.next.Goals as goal

pub loop-value-init : goal.loop-value-init
loop-value-init c =
    let levels = levels_in c.args.self.now in
    record { left = refl; shorter = le_refl (length levels); nested = at_start levels; whole = λ h. h }

pub returns-in-Some : goal.returns-in-Some
returns-in-Some c =
    let outer = levels_of c.loop-value.self.outer.items in
    let left = left_of c.advance.new.cursor in
    taken (levels_in c.args.self.now) (levels_in c.loop-value.self) (outer ++ left ∷ []) (levels_of (cursors_in c.cursor_into.result)) (levels_in c.enter.new.self) c.in-Some.value.now c.loop-value.invariant
    (outer, left, ap (λ xs. outer ++ xs ∷ []) c.in-Some.ensures, refl) c.cursor_into.ensures.opens (λ h. c.cursor_into.ensures.whole (opened_whole c.cursor_into.result h)) c.in_ok-enter.ensures

pub loop-value-preserved : goal.loop-value-preserved
loop-value-preserved c =
    let around = c.in-Some-pop.around in
    popped (levels_in c.args.self.now) (levels_in c.loop-value.self) (levels_of c.pop.new.self.items ++ left_of around ∷ []) c.loop-value.invariant
    (popped_cursor c.loop-value.self.outer.items c.pop.new.self.items c.loop-value.self.innermost around c.in-Some-pop.ensures.items c.in_default.ensures.0)
