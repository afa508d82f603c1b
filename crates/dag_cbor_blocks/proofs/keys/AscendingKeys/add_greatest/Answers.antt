use Rattle.std.proofs.Common.{◌≡◌, length, rules, sym, ◌∙◌}
use Rattle.dag_cbor_format.proofs.KeyOrder.{first_trans}
use Rattle.dag_cbor_blocks.proofs.KeyTracking.{still_greatest, none_among}
use Rattle.dag_cbor_blocks.proofs.keys.AscendingKeys.add_greatest.Goals as goal
use Rattle.dag_cbor_blocks.proofs.keys.AscendingKeys.add_greatest.Goals.{then-is_empty, else-is_empty}

pub invariant_of-self-then-comes_after : goal.invariant_of-self-then-comes_after
invariant_of-self-then-comes_after c =
    let keys = c.args.self.now in
    record {
      ascending = still_greatest c.push.new.self.items keys.keys.items c.args.key c.in_ok-push.ensures.items
          (elim c.if-is_empty.branch [
            | then-is_empty w ↦ (let none : length keys.keys.items ≡ 0 = search rules in λ q first. none_among keys.keys.items q none)
            | else-is_empty w ↦ λ q first. keys.ascending q (first_trans keys.greatest.now c.args.key.now q (sym w.comes_after.ensures ∙ (sym w.value-is ∙ c.if-comes_after.true)) first)
          ]);
    }
