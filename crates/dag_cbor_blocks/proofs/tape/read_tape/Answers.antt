use Rattle.std.proofs.lemmas.Result.{err_from_is_err_and}
use Rattle.dag_cbor_blocks.proofs.Tapes.{tape_written, tape_too_long, same_tape, same_too_long, tape_encodes, stops_at_limit, only_memory}
use Rattle.dag_cbor_blocks.proofs.tape.read_tape.Goals as goal

pub returns-in_err-writer-clause-once : goal.returns-in_err-writer-clause-once
returns-in_err-writer-clause-once c =
    let e = c.in_err-writer.field-0.0 in
    let error = err_from_is_err_and c.from_residual.result c.from_residual.ensures.1 in
    rw (error.1, error.2) (
    λ es is.
    let block = tape_encodes es c.args.bytes.now is in
    stops_at_limit c.args.limits.now c.args.bytes.now e.kind e.offset c.in_err-writer.ensures block.0 block.1
    )

pub returns-in_err-writer-clause-only : goal.returns-in_err-writer-clause-only
returns-in_err-writer-clause-only c =
    let e = c.in_err-writer.field-0.0 in
    let error = err_from_is_err_and c.from_residual.result c.from_residual.ensures.1 in
    rw (error.1, error.2) (λ t is within. only_memory c.args.limits.now c.args.bytes.now e.kind e.offset c.in_err-writer.ensures t is within)

pub returns-then-writer-clause-exact : goal.returns-then-writer-clause-exact
returns-then-writer-clause-exact c =
    let r = c.in_ok-writer.ensures in
    let w = tape_written c.args.bytes.now c.new-writer.result c.in_ok-writer.writer c.new-writer.ensures r.1 r.0 c.if-writer.true in
    (w.0, w.1, r.2)

pub returns-then-writer-clause-once : goal.returns-then-writer-clause-once
returns-then-writer-clause-once c =
    same_tape c.args.bytes.now c.new-writer.result c.in_ok-writer.writer c.new-writer.ensures c.in_ok-writer.ensures.1 c.if-writer.true

pub returns-else-writer-clause-exact : goal.returns-else-writer-clause-exact
returns-else-writer-clause-exact c =
    let r = c.in_ok-writer.ensures in
    let w = tape_too_long c.args.bytes.now c.new-writer.result c.in_ok-writer.writer c.new-writer.ensures r.1 r.0 c.if-writer.false in
    (w.0, w.1, w.2, r.2)

pub returns-else-writer-clause-once : goal.returns-else-writer-clause-once
returns-else-writer-clause-once c =
    same_too_long c.args.bytes.now c.new-writer.result c.in_ok-writer.writer c.new-writer.ensures c.in_ok-writer.ensures.1 c.if-writer.false
