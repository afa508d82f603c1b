use Rattle.dag_cbor.proofs.FrontReads.{false_read, true_read, null_read}
use Rattle.dag_cbor.proofs.shallow.read_simple.Goals as goal

pub returns-in-20 : goal.returns-in-20
returns-in-20 c = λ levels. false_read levels c.args.number c.args.bytes.now c.in-20.is

pub returns-in-21 : goal.returns-in-21
returns-in-21 c = λ levels. true_read levels c.args.number c.args.bytes.now c.in-21.is

pub returns-in-22 : goal.returns-in-22
returns-in-22 c = λ levels. null_read levels c.args.number c.args.bytes.now c.in-22.is
