use Rattle.std.proofs.Common.{refl, sym, ◌∙◌, subst, arith, ℕ}
use Rattle.std.proofs.lemmas.Option.{none-some, same_Some}
use Rattle.unixfs.specs.Files.{IsOutside}
use Rattle.unixfs_files.specs.Walking.{range_of}
use Rattle.unixfs_files.proofs.Walks.{nothing, clash, stops_at, steps_over, ends_at}
use Rattle.unixfs_files.proofs.walk.next_part.Goals as goal

pub loop-part-preserved : goal.loop-part-preserved
loop-part-preserved c = λ left rest more.
    c.loop-part.invariant left rest (steps_over c.loop-part.waiting.items c.pop.new.self.items (range_of c.loop-part.range) (range_of c.past.result) c.in-Some.part c.in-Some-size.size left rest
    c.in-Some.ensures.items c.in-Some-size.is (c.is_outside.ensures.0 c.if-not-is_outside.false) c.past.ensures more)

pub returns-then-not-is_outside-clause-skips : goal.returns-then-not-is_outside-clause-skips
returns-then-not-is_outside-clause-skips c =
    let range = range_of c.loop-part.range in
    c.loop-part.invariant _ range (stops_at c.loop-part.waiting.items c.pop.new.self.items range c.in-Some.part c.in-Some.ensures.items (λ size sized outside.
    clash c.is_outside.result (c.is_outside.ensures.1 (subst (λ (n : ℕ). IsOutside n range) (same_Some size c.in-Some-size.size (sym sized ∙ c.in-Some-size.is)) outside)) c.if-not-is_outside.true))

pub returns-in-None-clause-skips : goal.returns-in-None-clause-skips
returns-in-None-clause-skips c =
    let range = range_of c.loop-part.range in
    c.loop-part.invariant _ range (stops_at c.loop-part.waiting.items c.pop.new.self.items range c.in-Some.part c.in-Some.ensures.items (λ size sized outside. none-some size (sym c.in-None.is ∙ sized)))

pub returns-clause-skips : goal.returns-clause-skips
returns-clause-skips c =
    let range = range_of c.loop-part.range in
    c.loop-part.invariant _ range (ends_at c.loop-part.waiting.items c.pop.new.self.items c.pop.result range c.pop.ensures.items (nothing c.pop.result c.in_default.not-Some)
    (λ some. c.pop.ensures.variant.1 (omega (arith, some, c.loop-part.waiting.ok.0))))
