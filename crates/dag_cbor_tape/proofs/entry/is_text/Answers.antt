use Rattle.dag_cbor_tape.proofs.Texts.{is_read, is_not_read}
use Rattle.dag_cbor_tape.proofs.entry.is_text.Goals as goal

pub returns-in-Ok : goal.returns-in-Ok
returns-in-Ok c = is_read c.args.content.now _ c.in-Ok.ensures

pub returns-in-Err : goal.returns-in-Err
returns-in-Err c = is_not_read c.args.content.now c.in-Err.ensures.0
