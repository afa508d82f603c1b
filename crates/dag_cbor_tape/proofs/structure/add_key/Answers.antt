use Rattle.std.proofs.Common.{true, false, inr, sym, ◌∙◌}
use Rattle.dag_cbor_blocks.specs.KeyList.{keys_now}
use Rattle.dag_cbor_blocks.proofs.KeyTracking.{added_to_set}
use Rattle.dag_cbor_tape.proofs.Adding.{new_key, old_key}
use Rattle.dag_cbor_tape.proofs.structure.add_key.Goals as goal

pub returns-in-Ok-true-clause-added : goal.returns-in-Ok-true-clause-added
returns-in-Ok-true-clause-added c =
    let a = added_to_set c.args.key c.args.seen.now.keys c.insert.new.self.keys true (sym c.in-Ok-true.field-0-test ∙ c.in-Ok-true.ensures.added) c.in-Ok-true.ensures.keys in
    (new_key (keys_now c.args.seen.now.keys) c.args.key.now c.args.left a.0, a.1)

pub returns-in-Ok-false-clause-repeated : goal.returns-in-Ok-false-clause-repeated
returns-in-Ok-false-clause-repeated c =
    let a = added_to_set c.args.key c.args.seen.now.keys c.insert.new.self.keys false (sym c.in-Ok-false.field-0-test ∙ c.in-Ok-false.ensures.added) c.in-Ok-false.ensures.keys in
    inr (old_key (keys_now c.args.seen.now.keys) c.args.key.now c.args.left a)
