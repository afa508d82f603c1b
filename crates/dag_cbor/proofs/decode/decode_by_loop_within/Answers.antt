use Rattle.std.proofs.Common.{false}
use Rattle.std.proofs.lemmas.Result.{err_from_is_err_and}
use Rattle.dag_cbor.proofs.BlockTrees.{decoded, decoded_once, tree_there}
use Rattle.dag_cbor.specs.Building.{tree_answer}
use Rattle.dag_cbor_blocks.proofs.Visits.{tokens_taken}
use Rattle.dag_cbor_blocks.proofs.WithinSteps.{stops_without, none_without, offset_in_block}
use Rattle.dag_cbor_blocks.proofs.BlockLimits.{block_within, only_memory, limit_or_memory}
use Rattle.dag_cbor.proofs.decode.decode_by_loop_within.Goals as goal

pub returns-clause-found : goal.returns-clause-found
returns-clause-found c =
    let r = tokens_taken tree_answer c.args.bytes.now c.new-builder.result c.read_events_within.new.visitor (c.in_ok-read_events_within.ensures.0, c.in_ok-read_events_within.ensures.1) in
    decoded c.args.bytes.now c.new-builder.result c.read_events_within.new.visitor c.new-builder.ensures r c.in-Some.tree (rw c.in-Some.is at c.finish.ensures)

pub returns-clause-within : goal.returns-clause-within
returns-clause-within c =
    let r = tokens_taken tree_answer c.args.bytes.now c.new-builder.result c.read_events_within.new.visitor (c.in_ok-read_events_within.ensures.0, c.in_ok-read_events_within.ensures.1) in
    let encodes = decoded c.args.bytes.now c.new-builder.result c.read_events_within.new.visitor c.new-builder.ensures r c.in-Some.tree (rw c.in-Some.is at c.finish.ensures) in
    block_within c.args.limits.now c.args.bytes.now _ encodes (none_without c.args.limits.now c.args.bytes.now c.in_ok-read_events_within.ensures.2)

pub returns-clause-only : goal.returns-clause-only
returns-clause-only c = λ t encodes within.
    let r = tokens_taken tree_answer c.args.bytes.now c.new-builder.result c.read_events_within.new.visitor (c.in_ok-read_events_within.ensures.0, c.in_ok-read_events_within.ensures.1) in
    decoded_once c.args.bytes.now c.new-builder.result c.read_events_within.new.visitor c.new-builder.ensures r c.in-Some.tree (rw c.in-Some.is at c.finish.ensures) t encodes

pub returns-clause-beyond : goal.returns-clause-beyond
returns-clause-beyond c = λ t encodes outside.
    absurd (outside (block_within c.args.limits.now c.args.bytes.now t encodes (none_without c.args.limits.now c.args.bytes.now c.in_ok-read_events_within.ensures.2)))

pub returns-clause-exact : goal.returns-clause-exact
returns-clause-exact c = none_without c.args.limits.now c.args.bytes.now c.in_ok-read_events_within.ensures.2

pub unreachable-requires : goal.unreachable-requires
unreachable-requires c =
    let r = tokens_taken tree_answer c.args.bytes.now c.new-builder.result c.read_events_within.new.visitor (c.in_ok-read_events_within.ensures.0, c.in_ok-read_events_within.ensures.1) in
    tree_there c.args.bytes.now c.new-builder.result c.read_events_within.new.visitor c.new-builder.ensures r (rw c.in-None.is at c.finish.ensures)

pub returns-in_err-read_events_within-clause-only : goal.returns-in_err-read_events_within-clause-only
returns-in_err-read_events_within-clause-only c = λ t encodes within.
    let p = err_from_is_err_and c.from_residual.result c.from_residual.ensures.1 in
    rw (p.1, p.2) (only_memory c.args.limits.now c.args.bytes.now t encodes within c.in_err-read_events_within.field-0.0.kind (stops_without c.args.limits.now c.args.bytes.now c.in_err-read_events_within.field-0.0.kind c.in_err-read_events_within.field-0.0.offset c.in_err-read_events_within.ensures))

pub returns-in_err-read_events_within-clause-beyond : goal.returns-in_err-read_events_within-clause-beyond
returns-in_err-read_events_within-clause-beyond c = λ t encodes outside.
    let p = err_from_is_err_and c.from_residual.result c.from_residual.ensures.1 in
    rw (p.1, p.2) (limit_or_memory c.args.limits.now c.args.bytes.now t encodes c.in_err-read_events_within.field-0.0.kind (stops_without c.args.limits.now c.args.bytes.now c.in_err-read_events_within.field-0.0.kind c.in_err-read_events_within.field-0.0.offset c.in_err-read_events_within.ensures))

pub returns-in_err-read_events_within-clause-exact : goal.returns-in_err-read_events_within-clause-exact
returns-in_err-read_events_within-clause-exact c =
    let p = err_from_is_err_and c.from_residual.result c.from_residual.ensures.1 in
    rw (p.1, p.2) (stops_without c.args.limits.now c.args.bytes.now c.in_err-read_events_within.field-0.0.kind c.in_err-read_events_within.field-0.0.offset c.in_err-read_events_within.ensures)

pub returns-in_err-read_events_within-clause-offset : goal.returns-in_err-read_events_within-clause-offset
returns-in_err-read_events_within-clause-offset c =
    let p = err_from_is_err_and c.from_residual.result c.from_residual.ensures.1 in
    rw (p.1, p.2) (offset_in_block false c.args.limits.now c.args.bytes.now c.in_err-read_events_within.field-0.0.kind c.in_err-read_events_within.field-0.0.offset c.in_err-read_events_within.ensures)

pub returns-in_err-read_events_within-clause-stopped : goal.returns-in_err-read_events_within-clause-stopped
returns-in_err-read_events_within-clause-stopped c =
    let p = err_from_is_err_and c.from_residual.result c.from_residual.ensures.1 in
    rw (p.1, p.2) c.in_err-read_events_within.ensures
