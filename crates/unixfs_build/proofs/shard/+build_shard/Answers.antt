use Rattle.std.proofs.Common.{List, map, ap, arith, rules}
use Rattle.unixfs_folders.specs.Views.{slot_parts}
use Rattle.unixfs_folders.specs.declared.folder.ShardLink.{ShardLink}
use Rattle.unixfs_build.specs.Views.{entry_of, made}
use Rattle.unixfs_build.proofs.Filling.{no_levels, in_slot_of, inside_named, inside_led, few_levels, slot_fault, slots_more, filled, filled_slots, filled_fault, filled_nodes, filled_holds}
use Rattle.unixfs_build.proofs.shard.+build_shard.Goals as goal

pub build_shard-returns-then-levels-eq0-clause-fault : goal.build_shard-returns-then-levels-eq0-clause-fault
build_shard-returns-then-levels-eq0-clause-fault n c = no_levels c.args.levels c.args.version c.args.attributes.now c.args.entries.now c.if-levels-eq0.true c.requires.led c.requires.several

pub build_shard-overflow_sub-levels : goal.build_shard-overflow_sub-levels
build_shard-overflow_sub-levels n c = few_levels c.args.levels (map entry_of c.args.entries.now) c.requires.led

pub build_shard-overflow_cast-slot : goal.build_shard-overflow_cast-slot
build_shard-overflow_cast-slot n c =
    let small = (in_slot_of c.args.levels c.loop-slot.slot (map entry_of c.args.entries.now) c.inside-item.result _ _ _ _ c.if-levels-eq0.false c.in-Ok.ensures c.deref-inside-items.ensures.value c.loop-slot-test.true c.inside-item.is c.entries-entries.ensures).less in omega (arith, small)

pub build_shard-add_slot-requires : goal.build_shard-add_slot-requires
build_shard-add_slot-requires n c =
    let at = (in_slot_of c.args.levels c.loop-slot.slot (map entry_of c.args.entries.now) c.inside-item.result _ _ _ _ c.if-levels-eq0.false c.in-Ok.ensures c.deref-inside-items.ensures.value c.loop-slot-test.true c.inside-item.is c.entries-entries.ensures) in
    (search rules, (inside_named c.args.levels c.loop-slot.slot (map entry_of c.args.entries.now) _ at c.requires.named, inside_led c.args.levels c.loop-slot.slot (map entry_of c.args.entries.now) _ at c.requires.led))

pub build_shard-returns-in-Err-add_slot-clause-fault : goal.build_shard-returns-in-Err-add_slot-clause-fault
build_shard-returns-in-Err-add_slot-clause-fault n c =
    slot_fault c.args.levels c.args.version c.args.attributes.now (map entry_of c.args.entries.now) c.loop-slot.slot _ c.in-Err-add_slot.error
    (in_slot_of c.args.levels c.loop-slot.slot (map entry_of c.args.entries.now) c.inside-item.result _ _ _ _ c.if-levels-eq0.false c.in-Ok.ensures c.deref-inside-items.ensures.value c.loop-slot-test.true c.inside-item.is c.entries-entries.ensures)
    c.in-Err-add_slot.ensures.fault

pub build_shard-loop-slot-preserved : goal.build_shard-loop-slot-preserved
build_shard-loop-slot-preserved n c =
    slots_more _ c.args.version c.deref-inside-items.result.now c.loop-slot.slot _ c.inside-item.result _ _ _ _ _ c.loop-slot-test.true c.inside-item.is c.entries-entries.ensures c.loop-slot.invariant
    c.in-Ok-add_slot.ensures.links c.in-Ok-add_slot.ensures.below c.in-Ok-add_slot.ensures.holds

pub build_shard-make_shard-requires : goal.build_shard-make_shard-requires
build_shard-make_shard-requires n c =
    filled_slots c.args.levels c.args.version (map entry_of c.args.entries.now) (map slot_parts c.deref.result.now) _
    (filled c.args.levels c.args.version (map entry_of c.args.entries.now) _ _ c.loop-slot.slot _ (map slot_parts c.deref.result.now) _ c.if-levels-eq0.false c.in-Ok.ensures c.deref-inside-items.ensures.value c.loop-slot-test.false c.loop-slot.invariant
    (ap (λ (ls : List ShardLink). map slot_parts ls) c.deref.ensures.value))
    c.requires.named

pub build_shard-returns-in-Err-make_shard-clause-fault : goal.build_shard-returns-in-Err-make_shard-clause-fault
build_shard-returns-in-Err-make_shard-clause-fault n c =
    filled_fault c.args.levels c.args.version c.args.attributes.now (map entry_of c.args.entries.now) (map slot_parts c.deref.result.now) _ c.in-Err-make_shard.error
    (filled c.args.levels c.args.version (map entry_of c.args.entries.now) _ _ c.loop-slot.slot _ (map slot_parts c.deref.result.now) _ c.if-levels-eq0.false c.in-Ok.ensures c.deref-inside-items.ensures.value c.loop-slot-test.false c.loop-slot.invariant
    (ap (λ (ls : List ShardLink). map slot_parts ls) c.deref.ensures.value))
    c.in-Err-make_shard.ensures.fault

pub build_shard-returns-in-Ok-with_root-clause-exact : goal.build_shard-returns-in-Ok-with_root-clause-exact
build_shard-returns-in-Ok-with_root-clause-exact n c =
    filled_nodes c.args.levels c.args.version c.args.attributes.now (map entry_of c.args.entries.now) (map slot_parts c.deref.result.now) _ (made c.in-Ok-make_shard.root) _
    (filled c.args.levels c.args.version (map entry_of c.args.entries.now) _ _ c.loop-slot.slot _ (map slot_parts c.deref.result.now) _ c.if-levels-eq0.false c.in-Ok.ensures c.deref-inside-items.ensures.value c.loop-slot-test.false c.loop-slot.invariant
    (ap (λ (ls : List ShardLink). map slot_parts ls) c.deref.ensures.value))
    c.in-Ok-make_shard.ensures.exact c.in-Ok-with_root.ensures

pub build_shard-returns-in-Ok-with_root-clause-holds : goal.build_shard-returns-in-Ok-with_root-clause-holds
build_shard-returns-in-Ok-with_root-clause-holds n c =
    filled_holds c.args.levels c.args.version c.args.attributes.now (map entry_of c.args.entries.now) (map slot_parts c.deref.result.now) _ (made c.in-Ok-make_shard.root)
    (filled c.args.levels c.args.version (map entry_of c.args.entries.now) _ _ c.loop-slot.slot _ (map slot_parts c.deref.result.now) _ c.if-levels-eq0.false c.in-Ok.ensures c.deref-inside-items.ensures.value c.loop-slot-test.false c.loop-slot.invariant
    (ap (λ (ls : List ShardLink). map slot_parts ls) c.deref.ensures.value))
    c.in-Ok-make_shard.ensures.exact c.in-Ok-make_shard.ensures.shard
