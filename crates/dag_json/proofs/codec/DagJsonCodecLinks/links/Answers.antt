use Rattle.std.proofs.lemmas.Result.{err_from_is_err_and}
use Rattle.dag_json.proofs.codec.Blocks.{no_links}
use Rattle.dag_json.proofs.codec.DagJsonCodecLinks.links.Goals as goal

pub returns-in_err-cids-clause-err : goal.returns-in_err-cids-clause-err
returns-in_err-cids-clause-err c =
    let p = err_from_is_err_and c.from_residual.result c.from_residual.ensures.1 in
    rw p.1 (no_links c.args.bytes.now c.in_err-cids.field-0.0 p.0 c.in_err-cids.ensures.err p.2)
