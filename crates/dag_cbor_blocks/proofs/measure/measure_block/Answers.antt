use Rattle.std.proofs.lemmas.Result.{err_from_is_err_and}
use Rattle.dag_cbor_blocks.proofs.EventReads.{only_memory}
use Rattle.dag_cbor_blocks.proofs.Measuring.{block_measures, block_tree, block_links}
use Rattle.dag_cbor_blocks.proofs.measure.measure_block.Goals as goal

pub returns-clause-exact : goal.returns-clause-exact
returns-clause-exact c =
    let r = c.in_ok-measurer.ensures in
    (block_links c.args.options.now.floats c.args.bytes.now c.new.result c.in_ok-measurer.measurer c.new.ensures r.0 r.1, r.2)

pub returns-clause-found : goal.returns-clause-found
returns-clause-found c =
    let r = c.in_ok-measurer.ensures in
    block_tree c.args.options.now.floats c.args.bytes.now c.new.result c.in_ok-measurer.measurer c.new.ensures r.0 r.1

pub returns-clause-only : goal.returns-clause-only
returns-clause-only c = λ t encodes within.
    let r = c.in_ok-measurer.ensures in
    block_measures c.args.options.now.floats c.args.bytes.now c.new.result c.in_ok-measurer.measurer c.new.ensures r.0 r.1 t encodes

pub returns-in_err-measurer-clause-only : goal.returns-in_err-measurer-clause-only
returns-in_err-measurer-clause-only c = λ t encodes within.
    let p = err_from_is_err_and c.from_residual.result c.from_residual.ensures.1 in
    let error = c.in_err-measurer.field-0.0 in
    rw (p.1, p.2) (only_memory c.args.options.now.floats c.args.options.now.limits c.args.bytes.now error.kind error.offset c.in_err-measurer.ensures t encodes within)
