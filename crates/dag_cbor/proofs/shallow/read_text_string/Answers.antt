use Rattle.dag_cbor.proofs.FrontReads.{text_read}
use Rattle.dag_cbor.proofs.shallow.read_text_string.Goals as goal

pub returns : goal.returns
returns c = λ levels.
    let r = c.in_ok-content in
    text_read levels c.args.length c.args.bytes.now r.content.now r.rest.now c.in_ok-copy.copy r.ensures c.in_ok-copy.ensures.ok
