use Rattle.unixfs_build.specs.Levels.{no_room}
use Rattle.unixfs_build.proofs.Steps.{is_nil, has_some, ends_on_top, ends_higher, top_fault, node_fault, higher_fault, last_memory}
use Rattle.unixfs_build.proofs.builder.+finish_levels.Goals as goal

pub returns-in-Ok-clause-root : goal.returns-in-Ok-clause-root
returns-in-Ok-clause-root n c = λ parts some wait.
    ends_on_top c.args.layout.now c.args.attributes.now c.args.levels.now c.in-Some.above.now _ c.in-Some.low.now _ _ _ _ c.append.result c.in-Some.ensures.cases.0 (is_nil c.in-Some.above.now c.if-is_empty.ensures) c.parts.ensures c.in-Ok.ensures.exact c.in-Ok.ensures.holds c.append.ensures.appended parts wait

pub returns-in-Ok-clause-fault : goal.returns-in-Ok-clause-fault
returns-in-Ok-clause-fault n c = last_memory _ _ _ _ c.append.result c.append.ensures.fault

pub returns-in-Err-clause-fault : goal.returns-in-Err-clause-fault
returns-in-Err-clause-fault n c =
    top_fault c.args.layout.now c.args.attributes.now c.args.levels.now c.in-Some.above.now _ c.in-Some.low.now _ c.in-Err.error c.in-Some.ensures.cases.0 (is_nil c.in-Some.above.now c.if-is_empty.ensures) c.parts.ensures c.in-Err.ensures.fault

pub returns-in-Err-make_parent-clause-fault : goal.returns-in-Err-make_parent-clause-fault
returns-in-Err-make_parent-clause-fault n c =
    node_fault c.args.layout.now c.args.attributes.now c.args.levels.now c.in-Some.above.now _ c.in-Some.low.now _ c.in-Err-make_parent.error c.in-Some.ensures.cases.0 (has_some c.in-Some.above.now c.if-is_empty.ensures) c.parts-2.ensures c.in-Err-make_parent.ensures.fault

pub returns-in-Err-append-clause-fault : goal.returns-in-Err-append-clause-fault
returns-in-Err-append-clause-fault n c = no_room c.in-Err-append.ensures.fault

pub returns-clause-root : goal.returns-clause-root
returns-clause-root n c = λ parts some wait.
    ends_higher c.args.layout.now c.args.attributes.now c.args.levels.now c.in-Some.above.now _ c.in-Some.low.now _ _ _ _ c.finish_levels.result c.in-Some.ensures.cases.0 (has_some c.in-Some.above.now c.if-is_empty.ensures) c.parts-2.ensures c.in-Ok-make_parent.ensures.exact
    c.in-Ok-make_parent.ensures.holds c.part-upper.ensures c.finish_levels.ensures.root parts wait

pub returns-clause-fault : goal.returns-clause-fault
returns-clause-fault n c =
    higher_fault c.args.layout.now c.args.attributes.now c.args.levels.now c.in-Some.above.now _ c.in-Some.low.now _ _ _ c.finish_levels.result c.in-Some.ensures.cases.0 (has_some c.in-Some.above.now c.if-is_empty.ensures) c.parts-2.ensures c.in-Ok-make_parent.ensures.exact c.part-upper.ensures
    c.finish_levels.ensures.fault
