use Rattle.std.proofs.Common.{◌∙◌}
use Rattle.unixfs_build.proofs.Slotting.{by_slot_empty, spread_more}
use Rattle.unixfs_build.proofs.shard.spread.Goals as goal

pub loop-entry-init : goal.loop-entry-init
loop-entry-init c = c.in-Ok.ensures ∙ by_slot_empty c.args.depth

pub loop-entry-preserved : goal.loop-entry-preserved
loop-entry-preserved c =
    spread_more c.args.depth c.from-slot.result c.loop-entry.entry-index c.args.entries.now c.loop-entry.slots.items c.entry-item.result _ _ c.push.new.self _
    c.loop-entry-test.true c.entry-item.is (c.from-slot.ensures ∙ c.slot_of.ensures) c.loop-entry.invariant c.index_mut.ensures.value c.in-Ok-push.ensures
