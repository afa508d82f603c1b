use Rattle.std.proofs.Common.{false, sym, ap, ◌∙◌}
use Rattle.dag_cbor_format.specs.Reading.{step}
use Rattle.dag_cbor_blocks.specs.Position.{frames_of}
use Rattle.dag_cbor_blocks.specs.Reader.{in_stage}
use Rattle.dag_cbor_blocks.proofs.Hinting.{hinted_as}
use Rattle.dag_cbor_blocks.proofs.reader.Reader.read_part.Goals as goal

pub returns-in-Item-clause-hints : goal.returns-in-Item-clause-hints
returns-in-Item-clause-hints c =
    let r = c.loop-self.self in
    let p = r.position in
    let next = rw c.in-Item.is at c.in_ok-advance.ensures.next in
    hinted_as _ _ _ _ _ c.read_item.result (c.loop-self.invariant.1 ∙ ap (λ s. step (in_stage s (frames_of p)) p.rest.now) c.loop-self.invariant.0 ∙ next.0.1 false)
    (sym (c.in_ok-advance.ensures.uncounted ∙ c.loop-self.invariant.2)) c.read_item.ensures.hints

pub returns-in-Value-clause-hints : goal.returns-in-Value-clause-hints
returns-in-Value-clause-hints c = c.in_ok-advance.ensures.uncounted ∙ c.loop-self.invariant.2

pub returns-in-EndOfList-clause-hints : goal.returns-in-EndOfList-clause-hints
returns-in-EndOfList-clause-hints c = c.in_ok-advance.ensures.uncounted ∙ c.loop-self.invariant.2

pub returns-in-EndOfMap-clause-hints : goal.returns-in-EndOfMap-clause-hints
returns-in-EndOfMap-clause-hints c = c.in_ok-advance.ensures.uncounted ∙ c.loop-self.invariant.2

pub returns-then-is_empty-clause-hints : goal.returns-then-is_empty-clause-hints
returns-then-is_empty-clause-hints c = c.loop-self.invariant.2
