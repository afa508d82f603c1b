use Rattle.std.proofs.Common.{sym, subst}
use Rattle.dag_cbor.proofs.Entries.{Rises, in_order_already}
use Rattle.dag_cbor.proofs.key_order.lengths_ascend.Goals as goal

pub returns : goal.returns
returns c =
    let rises = c.loop-key.invariant (subst (Rises c.loop-key.longest) (sym c.in-None.ensures.steps.0) tt) in
    λ _. in_order_already 0 c.args.members.now.entries c.iter-key-items.ensures.ordered rises
