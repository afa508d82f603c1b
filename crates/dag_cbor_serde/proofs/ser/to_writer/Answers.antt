use Rattle.std.proofs.lemmas.Result.{err_from_is_err_and}
use Rattle.dag_cbor_serde.proofs.Appended.{not_out_of_range, none_of_image}
use Rattle.dag_cbor_serde.proofs.ser.to_writer.Goals as goal

pub returns-in_err-write_block-clause-out_of_range : goal.returns-in_err-write_block-clause-out_of_range
returns-in_err-write_block-clause-out_of_range g c = λ t has out.
    absurd (not_out_of_range (g.T.Serialize.image c.args.value.now) c.in_ok-block.block.items t c.in_ok-block.ensures.ok has out)

pub returns-clause-out_of_range : goal.returns-clause-out_of_range
returns-clause-out_of_range g c = λ t has out.
    absurd (not_out_of_range (g.T.Serialize.image c.args.value.now) c.in_ok-block.block.items t c.in_ok-block.ensures.ok has out)

pub returns-in_err-block-clause-part : goal.returns-in_err-block-clause-part
returns-in_err-block-clause-part g c =
    let p = err_from_is_err_and c.from_residual.result c.from_residual.ensures.1 in
    rw p.1 (none_of_image (g.T.Serialize.image c.args.value.now) (g.W.Write.contents c.args.writer.now))
