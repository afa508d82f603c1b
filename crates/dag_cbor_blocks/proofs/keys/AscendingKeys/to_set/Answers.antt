use Rattle.std.proofs.Common.{rules}
use Rattle.dag_cbor_blocks.proofs.KeyTracking.{set_more}
use Rattle.dag_cbor_blocks.proofs.keys.AscendingKeys.to_set.Goals as goal

pub loop-key-preserved : goal.loop-key-preserved
loop-key-preserved c =
    set_more c.args.self.now.keys.items c.deref-key-items.result.now c.loop-key.key-index _ c.loop-key.set.keys c.insert.new.self.keys c.deref-key-items.ensures.value
    (search rules) c.loop-key.invariant c.in_ok-insert.ensures.keys
