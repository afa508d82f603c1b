use Rattle.std.proofs.Common.{◌≡◌, ℕ, ◌∙◌, true, None, Ok, Err, take, inl, inr, subst}
use Rattle.dag_cbor_tape.specs.Structure.{ascending}
use Rattle.dag_cbor_tape.proofs.Maps.{map_none, map_some}
use Rattle.dag_cbor_tape.proofs.Results.{some_same}
use Rattle.dag_cbor_tape.proofs.structure.check_map.Goals as goal

pub returns-in_default : goal.returns-in_default
returns-in_default c =
    inr (map_none c.args.contents.now c.args.entry c.args.following.now c.args.left c.inner_count.result c.inner_count.ensures c.in_default.not-Some c.requires)

pub returns-in-Ok : goal.returns-in-Ok
returns-in-Ok c = (
  map_some c.args.contents.now c.args.entry c.args.following.now c.in-Some.count (Ok tt) c.in-Some.ensures c.in-Ok.ensures.exact.0,
  λ turn n is.
      subst (λ (m : ℕ). ascending c.args.contents.now c.args.entry.value None (take m c.args.following.now) ≡ Ok true) (some_same c.in-Some.count n (c.in-Some.ensures ∙ is))
      (c.in-Ok.ensures.exact.1 turn),
)

pub returns-in-Err : goal.returns-in-Err
returns-in-Err c =
    elim c.in-Err.ensures.exact [
      | inl memory ↦ inl memory
      | inr is ↦ inr (map_some c.args.contents.now c.args.entry c.args.following.now c.in-Some.count (Err c.in-Err.fault) c.in-Some.ensures is)
    ]
