use Rattle.std.proofs.Common.{refl}
use Rattle.unixfs_build.specs.Levels.{no_memory}
use Rattle.unixfs_build.proofs.Steps.{found, at_end, full_level, room_in, add_memory, full_fault, upper_fault, waits_first, waits_more, adds_full, waits_full}
use Rattle.unixfs_build.proofs.builder.+add_part.Goals as goal

pub returns-in_default-clause-wait : goal.returns-in_default-clause-wait
returns-in_default-clause-wait n c = λ parts wide wait.
    waits_first c.args.layout.now c.args.levels.now.items c.add_level.new.levels.items c.args.index _ c.add_level.result (at_end c.args.levels.now.items c.deref.result.now c.args.index c.deref.ensures.value c.in_default.ensures.lookup.0 c.requires)
    c.add_level.ensures.added parts wide wait

pub returns-in_default-clause-fault : goal.returns-in_default-clause-fault
returns-in_default-clause-fault n c = add_memory _ _ _ c.add_level.result c.add_level.ensures.fault

pub returns-in-Ok-clause-wait : goal.returns-in-Ok-clause-wait
returns-in-Ok-clause-wait n c = λ parts wide wait.
    waits_more c.args.layout.now c.args.levels.now.items c.args.index c.in-Some.low.now _ _ _ _ parts
    (found c.args.levels.now.items c.deref.result.now c.args.index c.in-Some.low.now _ c.deref.ensures.value c.in-Some.ensures.lookup.0 c.in-Some.ensures.lookup.1)
    c.index_mut.ensures.value c.in-Ok.ensures.pushed (room_in c.parts.result.now _ _ c.parts.ensures c.if-parts-layout.true) wait

pub returns-in-Err-clause-fault : goal.returns-in-Err-clause-fault
returns-in-Err-clause-fault n c = no_memory refl

pub returns-in-Err-make_parent-clause-fault : goal.returns-in-Err-make_parent-clause-fault
returns-in-Err-make_parent-clause-fault n c =
    full_fault c.args.layout.now _ _ _ c.in-Some.low.now _ c.in-Err-make_parent.error
    (found c.args.levels.now.items c.deref.result.now c.args.index c.in-Some.low.now _ c.deref.ensures.value c.in-Some.ensures.lookup.0 c.in-Some.ensures.lookup.1).from_here
    c.parts-2.ensures (full_level c.parts.result.now _ _ c.parts.ensures c.if-parts-layout.false) c.in-Err-make_parent.ensures.fault

pub returns-in-Err-append-clause-fault : goal.returns-in-Err-append-clause-fault
returns-in-Err-append-clause-fault n c = no_memory c.in-Err-append.ensures.fault

pub returns-in-Err-add_part-clause-fault : goal.returns-in-Err-add_part-clause-fault
returns-in-Err-add_part-clause-fault n c =
    upper_fault c.args.layout.now _ _ _ c.in-Some.low.now _ _ _ c.in-Err-add_part.error
    (found c.args.levels.now.items c.deref.result.now c.args.index c.in-Some.low.now _ c.deref.ensures.value c.in-Some.ensures.lookup.0 c.in-Some.ensures.lookup.1).from_here
    c.parts-2.ensures (full_level c.parts.result.now _ _ c.parts.ensures c.if-parts-layout.false) c.in-Ok-make_parent.ensures.exact c.part-upper.ensures c.in-Err-add_part.ensures.fault

pub returns-clause-added : goal.returns-clause-added
returns-clause-added n c =
    adds_full c.args.layout.now c.args.levels.now.items c.add_part.new.levels.items c.args.index _ c.in-Some.low.now _ _ _ _ (record {
      there = found c.args.levels.now.items c.deref.result.now c.args.index c.in-Some.low.now _ c.deref.ensures.value c.in-Some.ensures.lookup.0 c.in-Some.ensures.lookup.1;
      full = full_level c.parts.result.now _ _ c.parts.ensures c.if-parts-layout.false;
      same = c.parts-2.ensures;
      made = c.in-Ok-make_parent.ensures.exact;
      upper_is = c.part-upper.ensures;
      below = c.in_default-add_part.ensures.below;
      above = c.in_default-add_part.ensures.added;
      now_is = c.clear.ensures;
    })

pub returns-clause-wait : goal.returns-clause-wait
returns-clause-wait n c = λ parts wide wait.
    waits_full c.args.layout.now c.args.levels.now.items c.add_part.new.levels.items c.args.index _ c.in-Some.low.now _ _ _ _ parts (record {
      there = found c.args.levels.now.items c.deref.result.now c.args.index c.in-Some.low.now _ c.deref.ensures.value c.in-Some.ensures.lookup.0 c.in-Some.ensures.lookup.1;
      full = full_level c.parts.result.now _ _ c.parts.ensures c.if-parts-layout.false;
      same = c.parts-2.ensures;
      made = c.in-Ok-make_parent.ensures.exact;
      upper_is = c.part-upper.ensures;
      below = c.in_default-add_part.ensures.below;
      above = c.in_default-add_part.ensures.added;
      now_is = c.clear.ensures;
    }) c.in-Ok-make_parent.ensures.holds wide c.in_default-add_part.ensures.wait wait
