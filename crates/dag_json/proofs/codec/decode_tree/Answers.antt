use Rattle.std.proofs.lemmas.Result.{err_from_is_err_and}
use Rattle.dag_json.proofs.codec.Blocks.{not_read}
use Rattle.dag_json.proofs.codec.decode_tree.Goals as goal

pub returns-in_err-decode_block-clause-err : goal.returns-in_err-decode_block-clause-err
returns-in_err-decode_block-clause-err c =
    let p = err_from_is_err_and c.from_residual.result c.from_residual.ensures.1 in
    rw p.1 (not_read c.args.bytes.now c.in_err-decode_block.field-0.0 p.0 c.in_err-decode_block.ensures.err p.2)
