use Rattle.dag_pb.specs.Lemmas.Names.{text_read, text_rejected}
use Rattle.dag_pb.proofs.link.read_text.Goals as goal

pub returns-in-Ok : goal.returns-in-Ok
returns-in-Ok c = text_read c.args.content.now c.in-Ok.text.now c.in-Ok.ensures.0 c.in-Ok.ensures.1

pub returns-in-Err : goal.returns-in-Err
returns-in-Err c = text_rejected c.args.content.now c.in-Err.ensures
