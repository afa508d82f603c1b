use Rattle.std.proofs.lemmas.Result.{err_from_is_err_and}
use Rattle.dag_cbor.specs.Building.{tree_answer}
use Rattle.dag_cbor_blocks.proofs.Visits.{tokens_taken, error_taken}
use Rattle.dag_cbor.proofs.BlockTrees.{decoded, decoded_once, tree_there, failed_in_bytes, failed_memory, failed_first}
use Rattle.dag_cbor.proofs.decode.decode_by_loop.Goals as goal

pub returns-clause-found : goal.returns-clause-found
returns-clause-found c =
    decoded c.args.bytes.now c.new-builder.result c.read_events.new.visitor c.new-builder.ensures (tokens_taken tree_answer c.args.bytes.now c.new-builder.result c.read_events.new.visitor c.in_ok-read_events.ensures) c.in-Some.tree (rw c.in-Some.is at c.finish.ensures)

pub returns-clause-only : goal.returns-clause-only
returns-clause-only c =
    decoded_once c.args.bytes.now c.new-builder.result c.read_events.new.visitor c.new-builder.ensures (tokens_taken tree_answer c.args.bytes.now c.new-builder.result c.read_events.new.visitor c.in_ok-read_events.ensures) c.in-Some.tree (rw c.in-Some.is at c.finish.ensures)

pub unreachable-requires : goal.unreachable-requires
unreachable-requires c =
    tree_there c.args.bytes.now c.new-builder.result c.read_events.new.visitor c.new-builder.ensures (tokens_taken tree_answer c.args.bytes.now c.new-builder.result c.read_events.new.visitor c.in_ok-read_events.ensures) (rw c.in-None.is at c.finish.ensures)

pub returns-in_err-read_events-clause-only : goal.returns-in_err-read_events-clause-only
returns-in_err-read_events-clause-only c = λ t encodes.
    let p = err_from_is_err_and c.from_residual.result c.from_residual.ensures.1 in
    rw (p.1, p.2) (failed_memory c.args.bytes.now c.in_err-read_events.field-0.0 (error_taken c.args.bytes.now c.in_err-read_events.field-0.0 c.in_err-read_events.ensures) t encodes)

pub returns-in_err-read_events-clause-errors : goal.returns-in_err-read_events-clause-errors
returns-in_err-read_events-clause-errors c =
    let p = err_from_is_err_and c.from_residual.result c.from_residual.ensures.1 in
    rw (p.1, p.2) (failed_in_bytes c.args.bytes.now c.in_err-read_events.field-0.0 (error_taken c.args.bytes.now c.in_err-read_events.field-0.0 c.in_err-read_events.ensures))

pub returns-in_err-read_events-clause-first : goal.returns-in_err-read_events-clause-first
returns-in_err-read_events-clause-first c =
    let p = err_from_is_err_and c.from_residual.result c.from_residual.ensures.1 in
    rw (p.1, p.2) (failed_first c.args.bytes.now c.in_err-read_events.field-0.0 (error_taken c.args.bytes.now c.in_err-read_events.field-0.0 c.in_err-read_events.ensures))
